-- `lines::part::join_parts` meets its contract. The invariant: the rows below q are written.
use Rattle.lines.specs.Lines.{LineOf, joined_at}
use Rattle.lines.proofs.part.join_parts.Given as goal

abbrev pub invariant-loop-q : goal.invariant-loop-q
invariant-loop-q l = LineOf (joined_at l.weight l.low l.high) l.x l.q l.line
