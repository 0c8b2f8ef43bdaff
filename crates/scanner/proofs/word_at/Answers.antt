-- The answers of `scanner::word_at`.
use mathlib.Core.Path.{refl, sym, ◌∙◌}
use native.Mathlib.Omega.{arith}
use Rattle.scanner.proofs.Read.{none_given}
use Rattle.scanner.proofs.Word.{word_past, word_none, word_more}
use Rattle.scanner.proofs.word_at.Goals as goal

pub returns-in_err-q-clause-place : goal.returns-in_err-q-clause-place
returns-in_err-q-clause-place c =
    none_given c.from_residual.ensures
    (sym (word_none _ _ c.loop-x.q c.loop-x-test.true c.in_err-q.ensures.place refl) ∙ c.loop-x.invariant.0)

pub loop-x-preserved : goal.loop-x-preserved
loop-x-preserved c =
    let l = c.loop-x in (
      sym (word_more _ _ l.q c.loop-x-test.true c.in_ok-q.ensures.place
          (λ z. omega (arith, c.in_ok-q.ensures.onward)))
          ∙ l.invariant.0,
      omega (arith, c.in_ok-q.ensures.onward),
    )

pub returns-clause-place : goal.returns-clause-place
returns-clause-place c = sym (word_past _ _ c.loop-x.q c.loop-x-test.false) ∙ c.loop-x.invariant.0
