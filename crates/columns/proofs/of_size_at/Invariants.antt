-- `columns::of_size_at` meets its contract. The loop's invariant: what is found of the set, and what is sought among
-- fewer columns, make up the set.
use Prim.Native.Nat.{◌-◌, ◌≤◌, ◌<◌}
use lib.ListN.{length}
use Rattle.columns.specs.Bound.{column_bound}
use Rattle.columns.specs.Order.{of_size}
use Rattle.columns.specs.Counts.{CountsUpTo}
use Rattle.columns.proofs.Unrank.{Sought}
use Rattle.columns.proofs.of_size_at.Given as goal

abbrev pub invariant-loop-m : goal.invariant-loop-m
invariant-loop-m l =
    (l.n ≤ column_bound) × CountsUpTo l.n l.rows × (l.index < length (of_size l.n l.k))
    × Sought l.n l.k l.index l.m l.size l.left l.set
