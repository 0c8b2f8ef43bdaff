-- The answers of `attributes::is_distinct`.
use Rattle.attributes.proofs.Distinct.{sifting_begun, sifting_more, sifting_twice, sifting_done}
use Rattle.attributes.proofs.is_distinct.Goals as goal

pub loop-name-init : goal.loop-name-init
loop-name-init c = sifting_begun _ _

pub returns-then-is_again : goal.returns-then-is_again
returns-then-is_again c =
    sifting_twice _ _ c.loop-name.invariant c.in-Some.ensures c.is_again.ensures c.if-is_again.true

pub loop-name-preserved : goal.loop-name-preserved
loop-name-preserved c =
    sifting_more _ _ c.loop-name.invariant c.in-Some.ensures c.is_again.ensures c.if-is_again.false

pub returns : goal.returns
returns c = sifting_done _ _ c.loop-name.invariant c.in_default.ensures
