-- `blocks::add_right` meets its contract. The loop's invariant: the right is added to the first `j` pairs.
use Rattle.blocks.specs.Cache.{AddedBelow}
use Rattle.blocks.proofs.add_right.Given as goal

abbrev pub invariant-loop-j : goal.invariant-loop-j
invariant-loop-j l = AddedBelow l.n l.a l.j l.plane l.initial.words l.words
