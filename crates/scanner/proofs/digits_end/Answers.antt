-- The answers of `scanner::digits_end`.
use mathlib.Core.Path.{sym, ap, ◌∙◌}
use mathlib.Core.Bool.{not}
use Rattle.model.specs.Form.{digits_end}
use Rattle.scanner.proofs.First.{first_here, first_more, first_end}
use Rattle.scanner.proofs.digits_end.Goals as goal

pub returns-then-not-is_ascii_digit : goal.returns-then-not-is_ascii_digit
unfolding digits_end
returns-then-not-is_ascii_digit c =
    sym (first_here _ _ c.loop-q-test.true
    (ap not (sym c.is_ascii_digit.ensures.value) ∙ ap not c.if-not-is_ascii_digit.true))
    ∙ c.loop-q.invariant

pub loop-q-preserved : goal.loop-q-preserved
unfolding digits_end
loop-q-preserved c =
    sym (first_more _ _ c.loop-q-test.true
    (ap not (sym c.is_ascii_digit.ensures.value) ∙ ap not c.if-not-is_ascii_digit.false))
    ∙ c.loop-q.invariant

pub returns : goal.returns
unfolding digits_end
returns c =
    c.max.ensures ∙ first_end _ _ _ c.loop-q.invariant c.loop-q-test.false c.loop-q.auto.q-end
