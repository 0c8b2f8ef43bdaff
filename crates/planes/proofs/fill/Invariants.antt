-- `planes::fill` meets its contract. The loop's invariant: the words below `i` are selected and closed by themselves.
use Rattle.planes.proofs.Filling.{FilledBelow}
use Rattle.planes.proofs.fill.Given as goal

abbrev pub invariant-loop-i : goal.invariant-loop-i
invariant-loop-i l = FilledBelow l.a l.i l.words l.plane
