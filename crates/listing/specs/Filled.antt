-- A listing call with a run by value: what it leaves in the first records is what `list` leaves in a lent run of zero
-- entries, and the records past the room are zero entries.
use Rattle.std.specs.Prelude.{ℕ, ◌-◌, ◌≡◌, List, take, drop, replicate, Result}
use Rattle.columns.specs.Test.{if_lt}
use Rattle.model.specs.Reply.{list_reply}
use Rattle.model.specs.Entry.{entry}
use Rattle.model.specs.List.{ListMeaning}
use Rattle.model.specs.declared.Entry.{Entry}
use Rattle.model.specs.declared.Progress.{Progress}
use Rattle.model.specs.declared.Refusal.{Refusal}
use Rattle.model.specs.Calls.{seen}

abbrev pub run_bound : ℕ
run_bound = 65536

-- the room asked for, or the bound where that is less
unfoldable pub cap : ℕ → ℕ
cap room = if_lt room run_bound room run_bound

-- The whole run is then one equation (`run_is_run_after_zeros` of proofs/WholeRun.antt):
--     run ≡ run_after (list_code cat place budget (cap room) (length work))
--         (whole (ordinary cat) place budget (cap room)) (replicate run_bound (entry 0 0 0))
pub record FilledBy (cat : List ℕ) (place budget room : ℕ) (work : List ℕ) (answer : Result Progress Refusal) (run : List Entry)
    (work_then : List ℕ)
    : Type 0 where
  pub listed : ListMeaning cat
      (seen place budget (replicate (cap room) (entry 0 0 0)) work (list_reply answer) (take (cap room) run) work_then)
  pub others : drop (cap room) run ≡ replicate (run_bound - cap room) (entry 0 0 0)
