-- `attributes::behind_zeros` meets its contract. The invariant: the number from here on is that at p.
use mathlib.Core.Path.{◌≡◌}
use lib.ListN.{drop}
use Rattle.model.specs.Form.{number_in}
use Rattle.attributes.proofs.behind_zeros.Given as goal

abbrev pub invariant-loop-i : goal.invariant-loop-i
invariant-loop-i l = number_in (drop l.i l.s) ≡ number_in (drop l.p l.s)
