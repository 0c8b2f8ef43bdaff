-- `sheets::put_tag` meets its contract: nothing, or a row.
use native.Mathlib.Omega.{arith}
use lib.ListN.{drop}
use Rattle.model.specs.Form.{cells_in}
use Rattle.sheets.proofs.Rows.{row_long, tag_put, tag_passed}
use Rattle.sheets.proofs.put_tag.Goals as goal

pub returns-then-n-table : goal.returns-then-n-table
returns-then-n-table c =
    let a = c.args in
    tag_passed a.columns a.table a.up a.n (cells_in (drop a.p a.s.now)) c.if-n-table.true _ _

pub put_row-requires : goal.put_row-requires
put_row-requires c =
    let a = c.args in
    let pre = c.requires in
    let cells = cells_in (drop a.p a.s.now) in
    (pre.0, omega (arith, row_long a.columns a.table a.up a.n cells c.if-n-table.false))

pub returns : goal.returns
returns c =
    let a = c.args in
    tag_put a.columns a.table a.up a.n (cells_in (drop a.p a.s.now))
    c.if-n-table.false _ _ c.put_row.ensures
