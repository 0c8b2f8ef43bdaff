-- The answers of `grounds::check_rows`.
use mathlib.Core.Path.{sym, ◌∙◌}
use native.Mathlib.Omega.{arith}
use Rattle.model.proofs.Codes.{handed_on, number_pos}
use Rattle.grounds.proofs.First.{none_below_zero, none_below_more, first_found, none_found}
use Rattle.grounds.proofs.Starts.{row_start, row_code_is}
use Rattle.grounds.proofs.check_rows.Goals as goal

pub loop-k-init : goal.loop-k-init
loop-k-init c = none_below_zero _ _

pub returns-in_err-check_row : goal.returns-in_err-check_row
returns-in_err-check_row c =
    let at = row_start _ _ c.loop-k.k c.row_at-first.ensures.is c.columns.ensures in
    let up = c.from.ensures ∙ c.parent.ensures in
    let e = row_code_is _ _ c.loop-k.k c.in_err-check_row.ensures c.parent_row.ensures at c.rows-above.ensures up in
    handed_on _ _ c.from_residual.ensures.1 (first_found _ _ _ c.loop-k.invariant (omega arith) e (number_pos _))

pub loop-k-preserved : goal.loop-k-preserved
loop-k-preserved c =
    let at = row_start _ _ c.loop-k.k c.row_at-first.ensures.is c.columns.ensures in
    let up = c.from.ensures ∙ c.parent.ensures in
    let e = row_code_is _ _ c.loop-k.k c.in_ok-check_row.ensures c.parent_row.ensures at c.rows-above.ensures up in
    none_below_more _ _ _ c.loop-k.invariant (omega arith) (sym e)

pub returns : goal.returns
returns c = none_found _ _ _ c.loop-k.invariant (omega arith)
