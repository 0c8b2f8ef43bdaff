-- `lines::wide::add_member` meets its contract. The invariant: the rows below q have the member, and those ahead are
-- as they were.
use Rattle.lines.specs.Lines.{LineOf, with_member}
use Rattle.lines.proofs.Lines.{Ahead}
use Rattle.lines.proofs.wide.add_member.Given as goal

abbrev pub invariant-loop-q : goal.invariant-loop-q
invariant-loop-q l = record {
  written : LineOf (with_member l.keys.keys.now l.k l.x l.initial.line) l.x l.q l.line;
  ahead : Ahead l.q l.keys.rows l.initial.line l.line;
}
