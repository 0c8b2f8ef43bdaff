-- `partition::join_if` meets its contract.
use native.Mathlib.Omega.{arith}
use Rattle.columns.proofs.Bits.{bit_one}
use Rattle.partition.proofs.Leading.{led_skipped}
use Rattle.partition.proofs.join_if.Goals as goal

pub returns-then-x-k-eq0 : goal.returns-then-x-k-eq0
returns-then-x-k-eq0 c = λ led. led_skipped _ _ _ _ _ _ led (λ i. omega (arith, c.if-x-k-eq0.true))

pub returns : goal.returns
returns c = λ led. c.join.ensures _ _ (bit_one _ _ c.if-x-k-eq0.false) led
