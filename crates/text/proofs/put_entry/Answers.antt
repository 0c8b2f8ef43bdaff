use Rattle.text.proofs.Puts.{puts_entry}
use Rattle.text.proofs.put_entry.Goals as goal

pub returns : goal.returns
returns c =
    puts_entry _ c.put_number-next.ensures c.put_byte-next.ensures c.put_number-next-2.ensures c.put_byte-next-2.ensures
    c.put_right.ensures
