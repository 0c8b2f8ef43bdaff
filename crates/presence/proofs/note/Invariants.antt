-- `presence::note` meets its contract: the bit is noted at the sets of the rows so far.
use Rattle.table.specs.Backed.{SetsNoted}
use Rattle.presence.proofs.note.Given as goal

abbrev pub invariant-loop-row : goal.invariant-loop-row
invariant-loop-row l = SetsNoted l.b l.sets l.row l.initial.words l.words
