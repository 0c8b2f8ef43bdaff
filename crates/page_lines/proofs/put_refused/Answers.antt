-- `put_refused` meets its contract: three words, one behind the other. Assumes nothing.
use Rattle.page_lines.proofs.Parts.{puts_refused}
use Rattle.page_lines.proofs.put_refused.Goals as goal

pub returns : goal.returns
returns c =
    puts_refused _ c.put_word-at.ensures
    c.put_number-at.ensures
    c.put_word.ensures
