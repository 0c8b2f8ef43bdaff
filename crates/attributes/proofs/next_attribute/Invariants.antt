-- `attributes::next_attribute` meets its contract. The invariant: no attribute was passed.
use mathlib.Core.Path.{◌≡◌}
use lib.ListN.{drop}
use Rattle.model.specs.Form.{cells_in}
use Rattle.attributes.proofs.next_attribute.Given as goal

abbrev pub invariant-loop-i : goal.invariant-loop-i
invariant-loop-i l = cells_in (drop l.i l.s) ≡ cells_in (drop l.p l.s)
