-- `scanner::numeral_at` meets its contract.
use mathlib.Core.Path.{refl, sym, ◌∙◌}
use native.Mathlib.Omega.{arith}
use Rattle.columns.proofs.Test.{is_if_eq, is_if_ne}
use Rattle.model.specs.Form.{numeral_at}
use Rattle.scanner.proofs.Progress.{digits_on}
use Rattle.scanner.proofs.numeral_at.Goals as goal

pub returns-then-end-p-clause-place : goal.returns-then-end-p-clause-place
unfolding numeral_at
returns-then-end-p-clause-place c = is_if_eq _ (sym c.digits_end-end.ensures ∙ c.if-end-p.true) refl

pub returns-then-byte_at-ne48-clause-place : goal.returns-then-byte_at-ne48-clause-place
unfolding numeral_at
returns-then-byte_at-ne48-clause-place c =
    let e = c.digits_end-end.ensures in
    is_if_ne _ (λ z. c.if-end-p.false (e ∙ z))
    (is_if_ne _ (λ z. c.if-byte_at-ne48.true (c.byte_at.ensures ∙ z)) e)

pub returns-then-byte_at-ne48-clause-onward : goal.returns-then-byte_at-ne48-clause-onward
returns-then-byte_at-ne48-clause-onward c =
    let e = c.digits_end-end.ensures in
    omega (arith, digits_on c.args.s.now c.args.p (λ z. c.if-end-p.false (e ∙ z)))

pub overflow_add-p : goal.overflow_add-p
overflow_add-p c =
    let e = c.digits_end-end.ensures in
    omega (arith, digits_on c.args.s.now c.args.p (λ z. c.if-end-p.false (e ∙ z)))

pub returns-then-end-p-2-clause-place : goal.returns-then-end-p-2-clause-place
unfolding numeral_at
returns-then-end-p-2-clause-place c =
    let e = c.digits_end-end.ensures in
    is_if_ne _ (λ z. c.if-end-p.false (e ∙ z))
    (is_if_eq _ (sym c.byte_at.ensures ∙ c.if-byte_at-ne48.false)
    (is_if_ne _ (λ z. c.if-end-p-2.true (e ∙ z)) refl))

pub returns-clause-place : goal.returns-clause-place
unfolding numeral_at
returns-clause-place c =
    let e = c.digits_end-end.ensures in
    is_if_ne _ (λ z. c.if-end-p.false (e ∙ z))
    (is_if_eq _ (sym c.byte_at.ensures ∙ c.if-byte_at-ne48.false)
    (is_if_eq _ (sym e ∙ c.if-end-p-2.false) c.if-end-p-2.false))
