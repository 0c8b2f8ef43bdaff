-- `columns::with_a_column` meets its contract. The loop's invariant: the sizes above k have their new numbers, the
-- others the old ones.
use Prim.Native.Nat.{◌-◌, ◌<◌}
use Rattle.columns.specs.Bound.{column_bound}
use Rattle.columns.proofs.Rows.{Between}
use Rattle.columns.proofs.with_a_column.Given as goal

abbrev pub invariant-loop-k : goal.invariant-loop-k
invariant-loop-k l = (l.n < column_bound) × Between l.n (l.k - 1) l.row
