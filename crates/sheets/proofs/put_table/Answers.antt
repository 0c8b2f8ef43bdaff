-- `sheets::put_table` meets its contract: the first 6 bytes, and the rows.
use native.Mathlib.Omega.{arith}
use Rattle.model.specs.Convert.{tags_in}
use Rattle.sheets.proofs.Tables.{head_room, rows_room, table_put}
use Rattle.sheets.proofs.put_table.Goals as goal

pub put_head-requires : goal.put_head-requires
put_head-requires c =
    let start = c in
    let a = start.args in
    head_room a.shape.now (tags_in a.s.now) a.table c.columns-columns.ensures
    c.parent-above.ensures a.out.now a.at start.requires.3

pub put_rows-requires : goal.put_rows-requires
put_rows-requires c =
    let head = c in
    let start = head in
    let a = start.args in (
      omega arith,
      omega arith,
      omega arith,
      rows_room a.shape.now (tags_in a.s.now) a.table head.columns-columns.ensures
          head.parent-above.ensures a.out.now a.at head.put_head.new.out a.count
          start.requires.3 head.put_head.ensures,
    )

pub returns : goal.returns
returns c =
    let head = c in
    let start = head in
    let a = start.args in
    table_put a.shape.now (tags_in a.s.now) a.table head.columns-columns.ensures
    head.parent-above.ensures a.out.now a.at _ _ _ a.count start.requires.2
    head.put_head.ensures c.put_rows.ensures
