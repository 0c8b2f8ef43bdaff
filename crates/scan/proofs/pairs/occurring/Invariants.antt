-- `scan::occurring` meets its contract. The invariant: the pairs of the rows below x are noted.
use Rattle.scan.proofs.Seeing.{SeenBefore}
use Rattle.scan.proofs.pairs.occurring.Given as goal

abbrev pub invariant-loop-x : goal.invariant-loop-x
invariant-loop-x l = SeenBefore l.keys.keys.now l.keys.members l.keys.rows l.x l.seen
