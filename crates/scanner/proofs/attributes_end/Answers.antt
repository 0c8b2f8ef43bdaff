-- The answers of `scanner::attributes_end`.
use mathlib.Core.Path.{sym, ◌∙◌}
use native.Mathlib.Omega.{arith}
use Rattle.readers.proofs.Many.{many_done, many_more, many_fails}
use Rattle.scanner.proofs.Read.{none_given}
use Rattle.scanner.proofs.Progress.{attributes_go}
use Rattle.scanner.proofs.attributes_end.Goals as goal

pub returns-in_err-q-clause-place : goal.returns-in_err-q-clause-place
returns-in_err-q-clause-place c =
    let s = c.args.s.now in
    none_given c.from_residual.ensures
    (sym (many_fails s _ _ (attributes_go s) (sym c.is_attribute.ensures ∙ c.loop-q-test.true)
    (sym c.in_err-q.ensures.place))
    ∙ c.loop-q.invariant.0)

pub loop-q-smaller : goal.loop-q-smaller
loop-q-smaller c =
    omega (
      arith,
      c.in_ok-q.ensures.onward,
      (attributes_go c.args.s.now).inside c.loop-q.q (sym c.is_attribute.ensures ∙ c.loop-q-test.true),
    )

pub loop-q-preserved : goal.loop-q-preserved
loop-q-preserved c =
    let s = c.args.s.now in (
      sym (many_more s _ _ (attributes_go s) (sym c.is_attribute.ensures ∙ c.loop-q-test.true)
          (sym c.in_ok-q.ensures.place) (λ z. omega (arith, c.in_ok-q.ensures.onward)))
          ∙ c.loop-q.invariant.0,
      omega (arith, c.in_ok-q.ensures.onward),
    )

pub returns-clause-place : goal.returns-clause-place
returns-clause-place c =
    let s = c.args.s.now in
    sym (many_done s _ _ (attributes_go s) (sym c.is_attribute.ensures ∙ c.loop-q-test.false))
    ∙ c.loop-q.invariant.0
