-- `columns::count_sets` meets its contract. The loop's invariant: the rows are right up to that of i columns.
use Prim.Native.Nat.{◌≤◌}
use Rattle.columns.specs.Bound.{column_bound}
use Rattle.columns.specs.Counts.{CountsUpTo}
use Rattle.columns.proofs.count_sets.Given as goal

abbrev pub invariant-loop-i : goal.invariant-loop-i
invariant-loop-i l = (l.n ≤ column_bound) × CountsUpTo l.i l.rows
