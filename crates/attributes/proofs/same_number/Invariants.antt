-- `attributes::same_number` meets its contract. The invariant: the same digits were read of both. The measure is what
-- is left of the text for the first.
use Prim.Native.Nat.{◌-◌}
use lib.ListN.{length}
use Rattle.attributes.proofs.Same.{InStep}
use Rattle.attributes.proofs.same_number.Given as goal

abbrev pub invariant-loop-digit : goal.invariant-loop-digit
invariant-loop-digit l = InStep l.s l.a l.b l.i l.j

abbrev pub decreases-loop-digit : goal.decreases-loop-digit
decreases-loop-digit l = length l.s - l.i
