-- The run by value of a listing call as one equation: what is written from its start, over records that are zero.
use Prim.Native.Nat.{ℕ, zero, suc, ◌≤◌}
use native.Mathlib.Omega.{arith}
use mathlib.Core.Path.{◌≡◌, refl, sym, ap, ap₂, ◌∙◌}
use mathlib.Core.List.{List, ◌++◌, append_assoc}
use lib.ListN.{length, drop, replicate, length-replicate, take-append-drop}
use lib.Seq.{drop-append-le}
use Rattle.columns.proofs.Test.{if_eq_yes, if_eq_no}
use Rattle.model.specs.Calls.{run_after}
use Rattle.model.specs.Entry.{entry}
use Rattle.model.specs.declared.Entry.{Entry}
use Rattle.std.specs.Prelude.{Result}
use Rattle.model.specs.declared.Progress.{Progress}
use Rattle.model.specs.declared.Refusal.{Refusal}
use Rattle.model.proofs.Stops.{written_fits}
use Rattle.model.specs.List.{list_code}
use Rattle.model.specs.Listing.{ordinary}
use Rattle.steps.specs.Steps.{whole}
use Rattle.listing.specs.Filled.{run_bound, cap, FilledBy}
use Rattle.listing.proofs.ByValue.{fresh, rest, run_parts}

-- records behind a run that has room for what is written stay as they are
run_after_append : {A : Type 0} (k : ℕ) (es xs ys : List A) → length es ≤ length xs
    → run_after k es xs ++ ys ≡ run_after k es (xs ++ ys)
unfolding run_after
run_after_append {A} zero es xs ys h =
    ap (λ (l : List A). l ++ ys) (if_eq_yes xs refl) ∙ append_assoc es (drop (length es) xs) ys
    ∙ ap (λ (l : List A). es ++ l) (sym (drop-append-le (length es) xs ys h)) ∙ sym (if_eq_yes (xs ++ ys) refl)
run_after_append {A} (suc k) es xs ys h =
    ap (λ (l : List A). l ++ ys) (if_eq_no (es ++ drop (length es) xs) (λ e. omega arith))
    ∙ sym (if_eq_no (es ++ drop (length es) (xs ++ ys)) (λ e. omega arith))

pub run_is_run_after_zeros : (cat : List ℕ) (place budget room : ℕ) (work : List ℕ) (answer : Result Progress Refusal)
    (run : List Entry)
    (work_then : List ℕ)
    → FilledBy cat place budget room work answer run work_then
    → run ≡ run_after (list_code cat place budget (cap room) (length work)) (whole (ordinary cat) place budget (cap room))
    (replicate run_bound (entry 0 0 0))
run_is_run_after_zeros cat place budget room work answer run work_then f =
    sym (take-append-drop (cap room) run)
    ∙ ap₂ (λ (l m : List Entry). l ++ m) (f.listed.run ∙ ap lent (length-replicate (cap room) (entry 0 0 0)))
    f.others ∙ run_after_append (list_code cat place budget (cap room) (length work))
    (whole (ordinary cat) place budget (cap room)) (fresh room) (rest room)
    (rw (length-replicate (cap room) (entry 0 0 0)) (written_fits budget (cap room) _))
    ∙ ap (run_after (list_code cat place budget (cap room) (length work)) (whole (ordinary cat) place budget (cap room)))
    (sym (run_parts room))
  where
    -- what a lent run of so many zero entries becomes
    lent : ℕ → List Entry
    lent n = run_after (list_code cat place budget n (length work)) (whole (ordinary cat) place budget n) (fresh room)
