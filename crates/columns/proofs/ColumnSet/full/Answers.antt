-- `columns::ColumnSet::full` meets its contract.
use Rattle.std.specs.Prelude.{Some}
use Prim.Native.Nat.{ℕ, ◌-◌}
use mathlib.Core.Path.{refl, ap}
use Rattle.columns.specs.Set.{set_of, full_of}
use Rattle.columns.proofs.Size.{power_pos}
use Rattle.columns.proofs.Test.{is_if_le, is_if_not_le}
use Rattle.columns.proofs.ColumnSet.full.Goals as goal

pub returns-then-n-gt-COLUMN_BOUND : goal.returns-then-n-gt-COLUMN_BOUND
unfolding full_of
returns-then-n-gt-COLUMN_BOUND c = is_if_not_le _ c.if-n-gt-COLUMN_BOUND.true refl

pub overflow_sub-result : goal.overflow_sub-result
overflow_sub-result c = power_pos _ _ c.power.ensures

pub returns : goal.returns
unfolding full_of
returns c = is_if_le _ c.if-n-gt-COLUMN_BOUND.false (ap (λ (p : ℕ). Some (set_of (p - 1))) c.power.ensures)
