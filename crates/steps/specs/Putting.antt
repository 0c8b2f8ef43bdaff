-- The contract of putting an entry.
use Rattle.std.specs.Prelude.{ℕ, suc, ◌-◌, ◌^◌, ◌≤◌, ◌<◌}
use Rattle.columns.specs.Bound.{column_bound}
use Rattle.model.specs.Entry.{entry}
use Rattle.model.specs.Rights.{right_at}
use Rattle.rights.specs.Rights.{lowest}
use Rattle.passing.specs.declared.Walk.{Walk}
use Rattle.steps.specs.declared.Stepped.{Stepped}
use Rattle.steps.specs.declared.Stepped.TheVariants.{Put}

-- what is put fits a record, which has 8 bits for the target and the right side and 16 for the left, and some right
-- is pending
pub record Puttable (w : Walk) : Type 0 where
  pub target : w.target < 2 ^ 8
  pub left : w.left < 2 ^ 16
  pub members : w.members ≤ column_bound
  pub some : 0 < w.pending
  pub pending : w.pending < 2 ^ suc w.members

-- the walk with other rights pending
abbrev pub with_pending : Walk → ℕ → Walk
with_pending w mask =
    record {
      target = w.target;
      left = w.left;
      members = w.members;
      held = w.held;
      own = w.own;
      place = w.place;
      budget = w.budget;
      room = w.room;
      passed = w.passed;
      count = w.count;
      pending = mask;
    }

-- the entry of the lowest pending right, and the walk without it
unfoldable pub put_from : Walk → Stepped
put_from w =
    Put (entry w.target w.left (right_at w.members (lowest w.pending)))
    (with_pending w (w.pending - 2 ^ lowest w.pending))
