-- `table::join_lowest` meets its contract. The loop's invariant: in the words below `start`, where eight words begin,
-- the three lowest columns are joined, and from `start` on the words are as before.
use Prim.Native.Nat.{◌-◌}
use Rattle.table.specs.Words.{word, with_columns}
use Rattle.table.proofs.Replacing.{Replacing}
use Rattle.table.proofs.join_lowest.Given as goal

abbrev pub invariant-loop-start : goal.invariant-loop-start
invariant-loop-start l = Replacing l.n 3 l.end l.start (with_columns 3 (word l.initial.words)) l.initial.words l.words

abbrev pub decreases-loop-start : goal.decreases-loop-start
decreases-loop-start l = l.end - l.start
