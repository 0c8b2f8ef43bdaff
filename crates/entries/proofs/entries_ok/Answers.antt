-- The answers of `entries::entries_ok`.
use mathlib.Core.Path.{ap, sym, ◌∙◌}
use native.Mathlib.Omega.{arith}
use Rattle.entries.specs.Verdict.{entry_in, codes_after}
use Rattle.entries.proofs.Checks.{next_bad, next_fine, none_left, left_from, none_from}
use Rattle.entries.proofs.entries_ok.Goals as goal

pub returns-then-not-fine_after : goal.returns-then-not-fine_after
returns-then-not-fine_after c =
    next_bad (entry_in c.loop-i.before) _ _ c.if-not-fine_after.ensures
    ∙ sym (c.loop-i.invariant
    ∙ ap (codes_after (entry_in c.loop-i.before)) (left_from _ _ _ _ c.loop-i-test.true c.requires (c.with_rank-e.ensures ∙ c.entry_from.ensures)))

pub loop-i-preserved : goal.loop-i-preserved
loop-i-preserved c =
    c.loop-i.invariant
    ∙ ap (codes_after (entry_in c.loop-i.before)) (left_from _ _ _ _ c.loop-i-test.true c.requires (c.with_rank-e.ensures ∙ c.entry_from.ensures))
    ∙ next_fine (entry_in c.loop-i.before) _ _ c.if-not-fine_after.ensures

pub returns : goal.returns
returns c =
    none_left (entry_in c.loop-i.before)
    ∙ sym (c.loop-i.invariant ∙ ap (codes_after (entry_in c.loop-i.before)) (none_from _ _ _ _ (omega arith)))
