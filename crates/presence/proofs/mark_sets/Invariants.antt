-- `presence::mark_sets` meets its contract: the sets of the rows so far are marked.
use Rattle.table.specs.Backed.{LaidSet}
use Rattle.planes.specs.Marks.{Marked}
use Rattle.presence.proofs.mark_sets.Given as goal

abbrev pub invariant-loop-q : goal.invariant-loop-q
invariant-loop-q l = Marked (LaidSet l.sets l.q) l.initial.plane l.plane
