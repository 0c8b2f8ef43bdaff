-- `planes::is_minimal` meets its contract. The loop's invariant: the members of `x` that are passed are not to spare.
use Rattle.planes.specs.Bits.{plane_bit}
use Rattle.planes.proofs.Members.{NarrowSoFar}
use Rattle.planes.proofs.is_minimal.Given as goal

abbrev pub invariant-loop-rest : goal.invariant-loop-rest
invariant-loop-rest l = NarrowSoFar (plane_bit l.plane) l.x l.a l.rest

abbrev pub decreases-loop-rest : goal.decreases-loop-rest
decreases-loop-rest l = l.rest
