-- The answers of `tags::next_less`.
use mathlib.Core.Path.{◌∙◌}
use native.Mathlib.Omega.{arith}
use Rattle.tags.proofs.Tags.{passed_more, passed_less, no_tags}
use Rattle.tags.proofs.next_less.Goals as goal

pub loop-i-init : goal.loop-i-init
loop-i-init c = c.behind_blocks-i.ensures

pub returns-then-s-i-eq60 : goal.returns-then-s-i-eq60
returns-then-s-i-eq60 c = passed_less _ _ _ c.loop-i.invariant (omega arith) c.if-s-i-eq60.true

pub loop-i-preserved : goal.loop-i-preserved
loop-i-preserved c = passed_more _ _ _ c.loop-i.invariant (omega arith) c.if-s-i-eq60.false

pub returns : goal.returns
returns c = c.loop-i.invariant.same ∙ no_tags _ _ c.loop-i-test.false
