-- The answers of `grounds::check_tables`.
use native.Mathlib.Omega.{arith}
use Rattle.model.proofs.Codes.{handed_on, number_pos}
use Rattle.grounds.proofs.First.{none_below_zero, none_below_more, first_found, none_found}
use Rattle.grounds.proofs.check_tables.Goals as goal

pub loop-table-init : goal.loop-table-init
loop-table-init c = none_below_zero _ _

pub returns-in_err-check_table : goal.returns-in_err-check_table
returns-in_err-check_table c =
    handed_on _ _ c.from_residual.ensures.1
    (first_found _ _ _ c.loop-table.invariant (omega arith) c.in_err-check_table.ensures (number_pos _))

pub loop-table-preserved : goal.loop-table-preserved
loop-table-preserved c = none_below_more _ _ _ c.loop-table.invariant (omega arith) (omega arith)

pub returns : goal.returns
returns c = none_found _ _ _ c.loop-table.invariant (omega arith)
