use Rattle.text.proofs.Puts.{puts_more}
use Rattle.text.proofs.put_word.Goals as goal

pub loop-x-preserved : goal.loop-x-preserved
loop-x-preserved c =
    puts_more c.args.word.now c.loop-x.x-index c.loop-x-test.true c.loop-x.invariant c.put_byte-next.ensures
