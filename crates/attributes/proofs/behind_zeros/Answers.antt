-- The answers of `attributes::behind_zeros`.
use mathlib.Core.Path.{◌∙◌}
use native.Mathlib.Omega.{arith}
use Rattle.attributes.proofs.Same.{zeros_ended, zeros_past, zero_passed}
use Rattle.attributes.proofs.behind_zeros.Goals as goal

pub returns-then-s-i-ne48 : goal.returns-then-s-i-ne48
returns-then-s-i-ne48 c = zeros_ended _ _ _ c.loop-i.invariant c.if-s-i-ne48.true

pub loop-i-preserved : goal.loop-i-preserved
loop-i-preserved c = zero_passed c.args.s.now c.loop-i.i c.if-s-i-ne48.false ∙ c.loop-i.invariant

pub returns : goal.returns
returns c = zeros_past _ c.args.p c.loop-i.i c.loop-i.invariant (omega arith) (omega arith)
