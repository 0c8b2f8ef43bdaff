-- `classes::number_member` meets its contract. The invariant: the rows below q are numbered.
use Rattle.classes.specs.Classes.{Numbering, OnlyMember}
use Rattle.classes.proofs.number_member.Given as goal

abbrev pub invariant-loop-q : goal.invariant-loop-q
invariant-loop-q l = record {
  only_member : OnlyMember l.k l.initial.bytes l.bytes;
  numbering : Numbering l.keys.keys.now l.k l.q l.count l.bytes;
}
