-- `attributes::are_below` meets its contract. The invariant: the attributes from here on decide. The measure is what is
-- left of the text.
use Prim.Native.Nat.{◌-◌}
use mathlib.Core.Path.{◌≡◌}
use lib.ListN.{length, drop}
use Rattle.model.specs.Form.{cells_in}
use Rattle.model.specs.Convert.{are_below}
use Rattle.attributes.proofs.are_below.Given as goal

abbrev pub invariant-loop-name : goal.invariant-loop-name
invariant-loop-name l = are_below l.c (cells_in (drop l.q l.s)) ≡ are_below l.c (cells_in (drop l.p l.s))

abbrev pub decreases-loop-name : goal.decreases-loop-name
decreases-loop-name l = length l.s - l.q
