-- The answers of `table::close`.
use native.Mathlib.Numerals.{add-one}
use native.Mathlib.Omega.{arith}
use borrow.Author.Rules.{rules}
use Rattle.table.proofs.Closing.{close_more, close_done}
use Rattle.table.proofs.Joining.{columns_closed}
use Rattle.table.proofs.close.Goals as goal

pub loop-k-preserved : goal.loop-k-preserved
loop-k-preserved c =
    λ ws h. rw add-one (close_more _ _ _ _ _ (omega arith) (c.loop-k.invariant ws h) c.join_column.ensures)

pub returns : goal.returns
returns c =
    let j = c.join_lowest-k.ensures in
    close_done _ _ _ _ (omega arith) (c.loop-k.invariant _ (columns_closed _ _ _ _ j.0 (search rules) j.1))
