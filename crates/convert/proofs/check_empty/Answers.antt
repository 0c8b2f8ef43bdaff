-- The answers of `convert::check_empty`.
use native.Mathlib.Omega.{arith}
use Rattle.grounds.proofs.First.{none_below_zero, none_below_more, first_found, none_found}
use Rattle.convert.proofs.Codes.{some_rows, none_rows}
use Rattle.convert.proofs.check_empty.Goals as goal

pub loop-table-init : goal.loop-table-init
loop-table-init c = none_below_zero _ _

pub returns-then-rows-ne0 : goal.returns-then-rows-ne0
returns-then-rows-ne0 c =
    first_found _ _ _ c.loop-table.invariant (omega arith)
    (some_rows _ c.loop-table.table c.rows.ensures c.if-rows-ne0.true) (λ z. omega arith)

pub loop-table-preserved : goal.loop-table-preserved
loop-table-preserved c =
    none_below_more _ _ _ c.loop-table.invariant (omega arith)
    (none_rows _ c.loop-table.table c.rows.ensures c.if-rows-ne0.false)

pub returns : goal.returns
returns c = none_found _ _ _ c.loop-table.invariant (omega arith)
