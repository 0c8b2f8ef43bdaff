-- The answers of `sheets::put_tables`.
use native.Mathlib.Omega.{arith}
use Rattle.model.proofs.Check.{accepted_tables, accepted_columns}
use Rattle.sheets.proofs.Tables.{tabling_begun, tabling_room, tabling_more, tabling_done}
use Rattle.sheets.proofs.put_tables.Goals as goal

pub loop-table-init : goal.loop-table-init
loop-table-init c = tabling_begun _ _ _

pub bounds-counts-table : goal.bounds-counts-table
bounds-counts-table c =
    let start = c in
    omega (arith, accepted_tables start.args.shape.now start.requires.0)

pub put_table-at-requires : goal.put_table-at-requires
put_table-at-requires c =
    let start = c in
    let few = accepted_tables start.args.shape.now start.requires.0 in (
      omega arith,
      accepted_columns start.args.shape.now start.requires.0 _ (omega arith),
      start.requires.1.each _ (omega arith),
      tabling_room _ _ _ c.loop-table.invariant (omega arith) start.requires.2,
    )

pub loop-table-preserved : goal.loop-table-preserved
loop-table-preserved c =
    tabling_more _ _ _ c.loop-table.invariant (omega arith)
    c.put_table-at.ensures

pub shape_of-out : goal.shape_of-out
shape_of-out c = c.loop-table.invariant.writing.size

pub returns : goal.returns
returns c = tabling_done _ _ _ c.loop-table.invariant (omega arith)
