-- `presence::join_cells` meets its contract: the cells from the j-th on stand in front of the set.
use Rattle.presence.specs.Cells.{present_cell}
use Rattle.presence.proofs.Cells.{Joining}
use Rattle.presence.proofs.join_cells.Given as goal

abbrev pub invariant-loop-j : goal.invariant-loop-j
invariant-loop-j l = Joining (present_cell l.cat l.from) l.c l.initial.joined l.j l.joined
