-- `scanner::skip` meets its contract. The invariant: the answer from here is the answer from the start.
use mathlib.Core.Path.{◌≡◌}
use Rattle.model.specs.Form.{skip}
use Rattle.scanner.proofs.skip.Given as goal

abbrev pub invariant-loop-q : goal.invariant-loop-q
invariant-loop-q l = skip l.s l.q ≡ skip l.s l.p
