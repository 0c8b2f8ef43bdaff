-- `scanner::digits_end` meets its contract. The invariant: the answer from here is the answer from the start.
use mathlib.Core.Path.{◌≡◌}
use Rattle.model.specs.Form.{digits_end}
use Rattle.scanner.proofs.digits_end.Given as goal

abbrev pub invariant-loop-q : goal.invariant-loop-q
invariant-loop-q l = digits_end l.s l.q ≡ digits_end l.s l.p
