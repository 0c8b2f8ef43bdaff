-- The answers of `convert::check_counts`.
use native.Mathlib.Omega.{arith}
use Rattle.model.specs.Convert.{tags_in}
use Rattle.model.proofs.Check.{accepted_tables}
use Rattle.grounds.proofs.First.{none_below_zero, none_below_more, first_found, none_found}
use Rattle.convert.proofs.Codes.{many_rows_lem, few_rows}
use Rattle.convert.proofs.check_counts.Goals as goal

pub loop-table-init : goal.loop-table-init
loop-table-init c = none_below_zero _ _

pub bounds-counts-table : goal.bounds-counts-table
bounds-counts-table c = omega (arith, accepted_tables c.args.shape.now c.requires.0)

pub returns-then-counts-table-gt-ROWS : goal.returns-then-counts-table-gt-ROWS
returns-then-counts-table-gt-ROWS c =
    let h = accepted_tables c.args.shape.now c.requires.0 in
    let k = c.requires.1.each c.loop-table.table (omega arith) in
    first_found _ _ _ c.loop-table.invariant (omega arith)
    (many_rows_lem _ c.loop-table.table k c.if-counts-table-gt-ROWS.true) (λ z. omega arith)

pub loop-table-preserved : goal.loop-table-preserved
loop-table-preserved c =
    let h = accepted_tables c.args.shape.now c.requires.0 in
    let k = c.requires.1.each c.loop-table.table (omega arith) in
    none_below_more _ _ _ c.loop-table.invariant (omega arith)
    (few_rows (tags_in c.args.text.now) c.loop-table.table k (omega arith))

pub returns : goal.returns
returns c = none_found _ _ _ c.loop-table.invariant (omega arith)
