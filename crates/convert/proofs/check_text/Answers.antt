-- `convert::check_text` meets its contract: the first ground that is found, in their order.
use mathlib.Core.Bool.{not}
use mathlib.Core.Path.{ap, sym}
use Rattle.model.specs.Convert.{fit_code}
use Rattle.model.specs.declared.Refusal.TheVariants.{BadText}
use Rattle.model.proofs.Codes.{refused_first, passed_first, handed_first}
use Rattle.convert.proofs.Codes.{read_all, not_read, bad_text_lem, good_text, unfit_text_lem, fit_text}
use Rattle.convert.proofs.check_text.Goals as goal

pub returns-in_err-check : goal.returns-in_err-check
returns-in_err-check c = handed_first _ _ _ c.from_residual.ensures.1 c.in_err-check.ensures

pub returns-then-not-document : goal.returns-then-not-document
returns-then-not-document c =
    let a = c.args in
    passed_first c.in_ok-check.ensures
    (refused_first BadText _
    (bad_text_lem a.text.now a.shape.now (not_read _ _ c.document.ensures (ap not c.if-not-document.true))))

pub returns-in_err-check_empty : goal.returns-in_err-check_empty
unfolding fit_code
returns-in_err-check_empty c =
    let form = good_text c.args.text.now c.args.shape.now
    (read_all _ _ c.document.ensures (ap not c.if-not-document.false)) in
    passed_first c.in_ok-check.ensures
    (passed_first (sym form)
    (handed_first _ _ _ c.from_residual-in_err-check_empty.ensures.1 c.in_err-check_empty.ensures))

pub returns-then-not-document-2 : goal.returns-then-not-document-2
returns-then-not-document-2 c =
    let form = good_text c.args.text.now c.args.shape.now
    (read_all _ _ c.document.ensures (ap not c.if-not-document.false)) in
    passed_first c.in_ok-check.ensures
    (passed_first (sym form)
    (unfit_text_lem _ _ (sym c.in_ok-check_empty.ensures)
    (not_read _ _ c.document-2.ensures (ap not c.if-not-document-2.true))))

pub returns : goal.returns
returns c =
    let form = good_text c.args.text.now c.args.shape.now
    (read_all _ _ c.document.ensures (ap not c.if-not-document.false)) in
    passed_first c.in_ok-check.ensures
    (passed_first (sym form)
    (fit_text _ _ (sym c.in_ok-check_empty.ensures)
    (read_all _ _ c.document-2.ensures (ap not c.if-not-document-2.false))))
