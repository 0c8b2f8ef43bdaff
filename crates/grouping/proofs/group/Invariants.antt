-- `grouping::group` meets its contract. The loop's invariant: the rows before q have their leaders.
use Rattle.grouping.proofs.Grouping.{Grouping}
use Rattle.grouping.proofs.group.Given as goal

abbrev pub invariant-loop-q : goal.invariant-loop-q
invariant-loop-q l = Grouping l.words l.q l.heads l.links l.leaders l.alone
