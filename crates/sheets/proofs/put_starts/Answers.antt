-- The answers of `sheets::put_starts`.
use native.Mathlib.Omega.{arith}
use Rattle.model.proofs.Check.{accepted_tables}
use Rattle.sheets.proofs.Tables.{starting_begun, starting_room, starting_more, starting_done}
use Rattle.sheets.proofs.put_starts.Goals as goal

pub loop-table-init : goal.loop-table-init
loop-table-init c = starting_begun _ _ _ _

pub put_u32-requires : goal.put_u32-requires
put_u32-requires c =
    starting_room _ _ _ _ c.loop-table.invariant (omega arith) (omega arith)

pub size_of-start-requires : goal.size_of-start-requires
size_of-start-requires c =
    let start = c in
    (omega (arith, accepted_tables start.args.shape.now start.requires.0), start.requires.1 _ (omega arith))

pub loop-table-preserved : goal.loop-table-preserved
loop-table-preserved c =
    starting_more _ _ _ _ c.loop-table.invariant (omega arith)
    c.put_u32.ensures c.size_of-start.ensures.is c.size_of-start.ensures.small

pub shape_of-out : goal.shape_of-out
shape_of-out c = c.loop-table.invariant.writing.size

pub returns : goal.returns
returns c = starting_done _ _ _ _ c.loop-table.invariant (omega arith)
