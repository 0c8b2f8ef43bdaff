-- `partition::leaders_of` meets its contract. The invariant: the rows have their leaders by the first m members.
use Rattle.partition.specs.Partition.{Led}
use Rattle.partition.proofs.leaders_of.Given as goal

abbrev pub invariant-loop-m : goal.invariant-loop-m
invariant-loop-m l = Led l.keys.keys.now l.m l.keys.rows l.x l.leaders l.alone
