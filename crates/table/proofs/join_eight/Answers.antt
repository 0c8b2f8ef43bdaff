-- `table::join_eight` meets its contract: the blocks of each of the three lowest columns, one after the other.
use borrow.Author.Rules.{rules}
use Rattle.table.proofs.Joining.{eight_joined}
use Rattle.table.proofs.join_eight.Goals as goal

pub returns : goal.returns
returns c =
    eight_joined _ _ _ _ _ _ _ _ _ (search rules) c.join_block.ensures c.join_block-2.ensures c.join_block-3.ensures
    c.join_block-4.ensures c.join_block-5.ensures c.join_block-6.ensures c.join_block-7.ensures
