-- `attributes::is_distinct` meets its contract. The invariant: the attributes from here on, beside the seen ones,
-- decide. The measure is what is left of the text.
use Prim.Native.Nat.{◌-◌}
use lib.ListN.{length}
use Rattle.attributes.proofs.Distinct.{Sifting}
use Rattle.attributes.proofs.is_distinct.Given as goal

abbrev pub invariant-loop-name : goal.invariant-loop-name
invariant-loop-name l = Sifting l.s l.p l.seen l.q

abbrev pub decreases-loop-name : goal.decreases-loop-name
decreases-loop-name l = length l.s - l.q
