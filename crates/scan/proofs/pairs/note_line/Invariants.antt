-- `scan::note_line` meets its contract. The invariant: the sets below q are noted.
use Rattle.scan.specs.SeenSets.{LineNoted}
use Rattle.scan.proofs.pairs.note_line.Given as goal

abbrev pub invariant-loop-q : goal.invariant-loop-q
invariant-loop-q l = LineNoted l.line l.from l.q l.initial.seen l.seen
