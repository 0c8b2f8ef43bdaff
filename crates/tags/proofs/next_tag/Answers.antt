-- The answers of `tags::next_tag`.
use mathlib.Core.Path.{sym, ◌∙◌}
use native.Mathlib.Omega.{arith}
use Rattle.tags.proofs.Tags.{passed_none, less_more, less_tag}
use Rattle.tags.proofs.next_tag.Goals as goal

pub loop-i-init : goal.loop-i-init
loop-i-init c = passed_none _ _

pub overflow_add-i : goal.overflow_add-i
overflow_add-i c = omega (arith, c.in-Some.ensures.within)

pub returns-then-byte_at-eq116 : goal.returns-then-byte_at-eq116
returns-then-byte_at-eq116 c =
    less_tag _ _ _ _ c.loop-i.invariant c.in-Some.ensures (sym c.byte_at.ensures ∙ c.if-byte_at-eq116.true)

pub loop-i-preserved : goal.loop-i-preserved
loop-i-preserved c =
    less_more _ _ _ _ c.loop-i.invariant c.in-Some.ensures
    (λ z. c.if-byte_at-eq116.false (c.byte_at.ensures ∙ z))

pub returns : goal.returns
returns c = c.loop-i.invariant.same ∙ c.in_default.ensures
