-- The answers of `partition::leaders_of`.
use native.Mathlib.Omega.{arith}
use Rattle.partition.proofs.Leading.{led_ended}
use Rattle.partition.proofs.leaders_of.Goals as goal

pub loop-m-init : goal.loop-m-init
loop-m-init c = c.lead_by_first-alone.ensures _ _

pub returns-then-alone : goal.returns-then-alone
returns-then-alone c = led_ended _ _ _ _ _ _ c.loop-m.invariant _ (omega arith) c.if-alone.true
