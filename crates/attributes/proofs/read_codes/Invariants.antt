-- `attributes::read_codes` meets its contract. The invariant: the attributes from here on store what all do. The
-- measure is what is left of the text.
use Prim.Native.Nat.{◌-◌}
use lib.ListN.{length}
use Rattle.attributes.proofs.Codes.{Storing}
use Rattle.attributes.proofs.read_codes.Given as goal

abbrev pub invariant-loop-name : goal.invariant-loop-name
invariant-loop-name l = Storing l.s l.p l.codes l.q

abbrev pub decreases-loop-name : goal.decreases-loop-name
decreases-loop-name l = length l.s - l.q
