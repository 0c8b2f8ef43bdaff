-- `marks::mark_lefts` meets its contract: what those passed want is marked.
use Rattle.marks.specs.Run.{entry_of}
use Rattle.marks.specs.Listed.{LeftAt}
use Rattle.marks.proofs.Marking.{Marking}
use Rattle.marks.proofs.mark_lefts.Given as goal

abbrev pub invariant-loop-i : goal.invariant-loop-i
invariant-loop-i l = Marking (λ y k. LeftAt l.m l.target l.right y (entry_of l.list k)) l.i l.initial.plane l.plane
