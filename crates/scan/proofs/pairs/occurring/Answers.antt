-- The answers of `scan::occurring`.
use Rattle.scan.proofs.Seeing.{seen_more}
use Rattle.scan.proofs.pairs.occurring.Goals as goal

pub loop-x-preserved : goal.loop-x-preserved
loop-x-preserved c = seen_more c.line_of.ensures c.note_line.ensures c.loop-x.invariant
