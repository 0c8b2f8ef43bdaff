-- The answers of `table::join_lowest`.
use native.Mathlib.Omega.{arith}
use borrow.Author.Rules.{rules}
use Rattle.table.proofs.Joining.{columns_none, columns_pass}
use Rattle.table.proofs.Replacing.{replacing_fits, replacing_done}
use Rattle.table.proofs.join_lowest.Goals as goal

pub returns-then-n-lt3 : goal.returns-then-n-lt3
returns-then-n-lt3 c = (search rules, columns_none _ _ _)

pub join_eight-requires : goal.join_eight-requires
join_eight-requires c =
    let h = replacing_fits _ _ _ _ _ _ _ (omega arith) c.loop-start.invariant in
    search rules

pub loop-start-preserved : goal.loop-start-preserved
loop-start-preserved c =
    columns_pass _ _ _ _ _ _ _ (omega arith) c.loop-start.invariant
    c.join_eight.ensures

pub returns-else-n-lt3-2 : goal.returns-else-n-lt3-2
returns-else-n-lt3-2 c =
    let i = columns_pass _ _ _ _ _ _ _ (omega arith) c.loop-start.invariant c.join_eight.ensures in
    (search rules, replacing_done _ _ _ _ _ _ _ (omega arith) i)
