-- `put_line` meets its contract: an entry and a line feed, one behind the other. Assumes nothing.
use Rattle.page_lines.proofs.Parts.{puts_line}
use Rattle.page_lines.proofs.put_line.Goals as goal

pub returns : goal.returns
returns c = puts_line _ c.put_entry-next.ensures
    c.put_word.ensures
