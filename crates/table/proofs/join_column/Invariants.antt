-- `table::join_column` meets its contract. The loop's invariant: the words below `start`, where a block begins, are
-- joined, and from `start` on they are as before.
use Prim.Native.Nat.{suc, ◌-◌}
use Rattle.table.specs.Words.{word, with_column}
use Rattle.table.proofs.Replacing.{Replacing}
use Rattle.table.proofs.join_column.Given as goal

abbrev pub invariant-loop-start : goal.invariant-loop-start
invariant-loop-start l =
    Replacing l.n (suc l.k) l.end l.start (with_column l.k (word l.initial.words)) l.initial.words l.words

abbrev pub decreases-loop-start : goal.decreases-loop-start
decreases-loop-start l = l.end - l.start
