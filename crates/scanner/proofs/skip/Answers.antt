-- The answers of `scanner::skip`.
use mathlib.Core.Path.{sym, ap, ◌∙◌}
use mathlib.Core.Bool.{not}
use Rattle.model.specs.Form.{skip}
use Rattle.scanner.proofs.First.{first_here, first_more, first_end}
use Rattle.scanner.proofs.skip.Goals as goal

pub returns-then-not-is_white : goal.returns-then-not-is_white
unfolding skip
returns-then-not-is_white c =
    sym (first_here _ _ c.loop-q-test.true (ap not (sym c.is_white.ensures) ∙ ap not c.if-not-is_white.true))
    ∙ c.loop-q.invariant

pub loop-q-preserved : goal.loop-q-preserved
unfolding skip
loop-q-preserved c =
    sym (first_more _ _ c.loop-q-test.true (ap not (sym c.is_white.ensures) ∙ ap not c.if-not-is_white.false))
    ∙ c.loop-q.invariant

pub returns : goal.returns
unfolding skip
returns c =
    c.max.ensures ∙ first_end _ _ _ c.loop-q.invariant c.loop-q-test.false c.loop-q.auto.q-end
