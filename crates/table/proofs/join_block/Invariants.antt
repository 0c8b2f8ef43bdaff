-- `table::join_block` meets its contract. The loop's invariant: the words of the block below `x` are joined, and the
-- others are as before.
use Rattle.filled.specs.Filled.{Filled}
use Rattle.table.specs.Words.{word, with_further}
use Rattle.table.proofs.join_block.Given as goal

abbrev pub invariant-loop-x : goal.invariant-loop-x
invariant-loop-x l = Filled l.start l.x (with_further l.column (word l.initial.words)) l.initial.words l.words
