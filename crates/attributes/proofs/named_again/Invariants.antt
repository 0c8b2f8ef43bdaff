-- `attributes::named_again` meets its contract. The invariant: the attributes from here on decide. The measure is what
-- is left of the text.
use Prim.Native.Nat.{◌-◌}
use mathlib.Core.Path.{◌≡◌}
use lib.ListN.{length, drop}
use Rattle.model.specs.Xml.{is_fresh}
use Rattle.model.specs.Form.{number_in, cells_in}
use Rattle.attributes.proofs.named_again.Given as goal

abbrev pub invariant-loop-other : goal.invariant-loop-other
invariant-loop-other l =
    let k = number_in (drop l.name l.s) in is_fresh k (cells_in (drop l.q l.s)) ≡ is_fresh k (cells_in (drop l.p l.s))

abbrev pub decreases-loop-other : goal.decreases-loop-other
decreases-loop-other l = length l.s - l.q
