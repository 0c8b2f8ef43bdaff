-- `attributes::quoted_number` meets its contract. The invariant: the number asked is that from here on.
use mathlib.Core.Path.{◌≡◌}
use lib.ListN.{drop}
use Rattle.model.specs.Form.{quoted_in}
use Rattle.attributes.proofs.quoted_number.Given as goal

abbrev pub invariant-loop-i : goal.invariant-loop-i
invariant-loop-i l = quoted_in (drop l.i l.s) ≡ quoted_in (drop l.p l.s)
