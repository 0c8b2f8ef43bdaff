-- The contract of passing the set of a walk.
use Rattle.std.specs.Prelude.{ℕ, suc, ◌+◌, ◌-◌, ◌*◌, ◌^◌, ◌≤◌, ◌<◌, Option, Some, None}
use Rattle.std.specs.Int.Count.{ones}
use Rattle.columns.specs.Bound.{column_bound}
use Rattle.columns.specs.Test.{if_lt}
use Rattle.model.specs.Bounds.{table_bound}
use Rattle.passing.specs.declared.Walk.{Walk}

-- the rights that a set can have: each column, and the row
abbrev pub right_bound : ℕ
right_bound = suc column_bound

-- the walk with its set passed, whose rights are the bits of a mask
abbrev pub passed_on : Walk → ℕ → Walk
passed_on w mask =
    record {
      target = w.target;
      left = w.left;
      members = w.members;
      held = w.held;
      own = w.own;
      place = w.place + 1;
      budget = w.budget - 1;
      room = w.room - ones mask;
      passed = w.passed + 1;
      count = w.count + ones mask;
      pending = mask;
    }

-- and none if its entries do not fit
unfoldable pub passed_by : Walk → ℕ → Option Walk
passed_by w mask = if_lt w.room (ones mask) None (Some (passed_on w mask))

-- the numbers of a walk are such that its set can be passed with these rights
pub record Passable (w : Walk) (mask : ℕ) : Type 0 where
  pub place : w.place < table_bound * 2 ^ column_bound
  pub passed : w.passed ≤ w.place
  pub counted : w.count ≤ right_bound * w.place
  pub rights : ones mask ≤ right_bound
  pub budget : 0 < w.budget
