-- The answers of `attributes::number_at`.
use Rattle.attributes.proofs.Digits.{digit_past, reading_begun, reading_more, reading_full, reading_done}
use Rattle.attributes.proofs.number_at.Goals as goal

pub loop-i-init : goal.loop-i-init
loop-i-init c = reading_begun _ _

pub returns-in_default : goal.returns-in_default
returns-in_default c = reading_done _ _ c.loop-i.invariant c.in_default.ensures

pub returns-then-n : goal.returns-then-n
returns-then-n c =
    reading_full _ _ c.loop-i.invariant c.in-Some.ensures.1 c.in-Some.ensures.0 c.if-n.true

pub loop-i-preserved : goal.loop-i-preserved
loop-i-preserved c =
    reading_more _ _ c.loop-i.invariant c.in-Some.ensures.1 c.in-Some.ensures.0 c.if-n.false

pub returns : goal.returns
returns c = reading_done _ _ c.loop-i.invariant (digit_past _ _ c.loop-i-test.false)
