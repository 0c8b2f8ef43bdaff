-- `marks::mark_sets` meets its contract: what those passed want is marked.
use Rattle.evidence.specs.Run.{record_of}
use Rattle.marks.specs.Listed.{SetAt}
use Rattle.marks.proofs.Marking.{Marking}
use Rattle.marks.proofs.mark_sets.Given as goal

abbrev pub invariant-loop-i : goal.invariant-loop-i
invariant-loop-i l = Marking (λ y k. SetAt l.target l.right y (record_of l.records k)) l.i l.initial.plane l.plane
