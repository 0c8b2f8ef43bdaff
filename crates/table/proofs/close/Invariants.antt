-- `table::close` meets its contract. The loop's invariant: where the first columns are joined when it begins, the
-- first `k` columns are joined.
use mathlib.Core.List.{List}
use Prim.Native.Nat.{ℕ}
use Rattle.table.proofs.Closing.{ClosedBelow}
use Rattle.table.proofs.close.Given as goal

abbrev pub invariant-loop-k : goal.invariant-loop-k
invariant-loop-k l =
    (ws : List ℕ) → ClosedBelow l.n l.initial.k ws l.initial.words → ClosedBelow l.n l.k ws l.words
