-- `blocks::rights_from` meets its contract: by the cursor's pair, or by a new block.
use native.Mathlib.Omega.{arith}
use Rattle.blocks.proofs.Cursor.{cursor_rights, block_rights}
use Rattle.blocks.proofs.rights_from.Goals as goal

pub returns-then-at_cursor : goal.returns-then-at_cursor
returns-then-at_cursor c =
    cursor_rights _ _ _ _ _ (omega arith) c.power-m.ensures c.requires.3 (c.at_cursor.ensures c.if-at_cursor.true)

pub returns : goal.returns
returns c =
    block_rights _ _ _ _ _ _ _ (omega arith) c.power-m.ensures (omega arith) c.requires.3.one
    c.answer_block-count.ensures
