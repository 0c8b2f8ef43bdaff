-- `blocks::write_lefts` meets its contract. The loop's invariant: `j` left sides are written, and `x` is the next.
use Rattle.blocks.proofs.Pairs.{LeftsBelow}
use Rattle.blocks.proofs.write_lefts.Given as goal

abbrev pub invariant-loop-j : goal.invariant-loop-j
invariant-loop-j l = LeftsBelow l.n l.first l.x l.j l.initial.words l.words
