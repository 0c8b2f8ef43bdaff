-- `scanner::expect` meets its contract.
use mathlib.Core.Path.{refl}
use Rattle.columns.proofs.Test.{is_if_eq, is_if_ne, is_if_lt, is_if_not_lt}
use Rattle.model.specs.Form.{expect}
use Rattle.scanner.proofs.expect.Goals as goal

pub returns-then-s-p-clause-place : goal.returns-then-s-p-clause-place
unfolding expect
returns-then-s-p-clause-place c = is_if_not_lt _ c.if-s-p.true refl

pub returns-then-s-p-2-clause-place : goal.returns-then-s-p-2-clause-place
unfolding expect
returns-then-s-p-2-clause-place c = is_if_lt _ c.if-s-p.false (is_if_ne _ c.if-s-p-2.true refl)

pub returns-clause-place : goal.returns-clause-place
unfolding expect
returns-clause-place c = is_if_lt _ c.if-s-p.false (is_if_eq _ c.if-s-p-2.false refl)
