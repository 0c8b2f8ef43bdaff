-- `lines::part::compare_eight` meets its contract. The invariant: the rows below q are compared.
use Rattle.lines.specs.Lines.{LineOf, part_at}
use Rattle.lines.proofs.part.compare_eight.Given as goal

abbrev pub invariant-loop-q : goal.invariant-loop-q
invariant-loop-q l = LineOf (part_at l.bytes l.few l.x l.v) l.x l.q l.part
