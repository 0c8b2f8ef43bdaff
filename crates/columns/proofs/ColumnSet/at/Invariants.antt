-- `columns::ColumnSet::at` meets its contract. The loop's invariant: the sizes below k are passed, and `left` is the
-- index in the rest.
use Prim.Native.Nat.{suc, ◌-◌, ◌≤◌}
use Rattle.columns.specs.Bound.{column_bound}
use Rattle.columns.specs.Counts.{CountsUpTo}
use Rattle.columns.proofs.Unrank.{SizesPassed}
use Rattle.columns.proofs.ColumnSet.at.Given as goal

abbrev pub invariant-loop-k : goal.invariant-loop-k
invariant-loop-k l = (l.n ≤ column_bound) × CountsUpTo l.n l.rows × SizesPassed l.n l.index l.k l.left
