-- `attributes::number_at` meets its contract. The invariant: the number from here on is the whole.
use Rattle.attributes.proofs.Digits.{Reading}
use Rattle.attributes.proofs.number_at.Given as goal

abbrev pub invariant-loop-i : goal.invariant-loop-i
invariant-loop-i l = Reading l.s l.p l.n l.i
