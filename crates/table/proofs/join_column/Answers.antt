-- The answers of `table::join_column`.
use native.Mathlib.Omega.{arith}
use borrow.Author.Rules.{rules}
use Rattle.table.proofs.Joining.{column_pass, column_joined}
use Rattle.table.proofs.Replacing.{replacing_fits, replacing_done}
use Rattle.table.proofs.join_column.Goals as goal

pub join_block-requires : goal.join_block-requires
join_block-requires c =
    let h = replacing_fits _ _ _ _ _ _ _ (omega arith) c.loop-start.invariant in
    search rules

pub loop-start-preserved : goal.loop-start-preserved
loop-start-preserved c =
    column_pass _ _ _ _ _ _ _ _ c.power-column.ensures (omega arith)
    c.loop-start.invariant c.join_block.ensures

pub returns-2 : goal.returns-2
returns-2 c =
    let i =
    column_pass _ _ _ _ _ _ _ _ c.power-column.ensures (omega arith) c.loop-start.invariant c.join_block.ensures in
    column_joined _ _ _ _ (replacing_done _ _ _ _ _ _ _ (omega arith) i)
