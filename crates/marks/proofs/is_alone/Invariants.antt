-- `marks::is_alone` meets its contract. The loop's invariant: what is known of the members of `x` that are passed.
use Rattle.marks.proofs.Reading.{AloneBut}
use Rattle.marks.proofs.is_alone.Given as goal

abbrev pub invariant-loop-rest : goal.invariant-loop-rest
invariant-loop-rest l = AloneBut l.lefts l.m l.x l.rest

abbrev pub decreases-loop-rest : goal.decreases-loop-rest
decreases-loop-rest l = l.rest
