-- `put_head` meets its contract: seven words, one behind the other. Assumes nothing.
use Rattle.page_lines.proofs.Parts.{puts_head}
use Rattle.page_lines.proofs.put_head.Goals as goal

pub returns : goal.returns
returns c =
    puts_head _ _ _
    c.put_word-at.ensures
    c.put_number-at.ensures
    c.put_word-at-2.ensures
    c.put_number-at-2.ensures
    c.put_word-at-3.ensures
    c.put_number-at-3.ensures
    c.put_word.ensures
