-- `verify::verify` meets its contract.
use mathlib.Core.Path.{refl, sym, ◌∙◌}
use native.Mathlib.Omega.{arith}
use Rattle.model.proofs.Codes.{number_pos}
use Rattle.packed.proofs.Opening.{opened}
use Rattle.verify.proofs.Laws.{handed_back, catalogue_refused, list_refused, list_opened}
use Rattle.verify.proofs.verify.Goals as goal

pub returns-in_err-check : goal.returns-in_err-check
returns-in_err-check c =
    let a = c.args in
    handed_back _ _ c.from_residual.ensures.1
    (catalogue_refused a.cat.now a.list.now a.evidence.now c.in_err-check.ensures (number_pos _) refl)

pub returns-in_err-opened : goal.returns-in_err-opened
returns-in_err-opened c =
    let a = c.args in
    handed_back _ _ c.from_residual-in_err-opened.ensures.1
    (list_refused a.cat.now a.list.now a.evidence.now (sym c.in_ok-check.ensures) c.in_err-opened.ensures)

pub invariant_of-entries : goal.invariant_of-entries
invariant_of-entries c = let o = opened _ c.in_ok-opened.ensures in omega (arith, o.inside)

pub judged-requires : goal.judged-requires
judged-requires c = sym c.in_ok-check.ensures

pub returns : goal.returns
returns c =
    let a = c.args in
    c.judged.ensures
    ∙ list_opened a.cat.now a.list.now a.evidence.now (sym c.in_ok-check.ensures) (opened _ c.in_ok-opened.ensures)
