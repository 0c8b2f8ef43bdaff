-- `partition::gives` meets its contract. The invariant: the rows below q have the key of their leader.
use Rattle.partition.specs.Partition.{Gives}
use Rattle.partition.proofs.gives.Given as goal

abbrev pub invariant-loop-q : goal.invariant-loop-q
invariant-loop-q l = Gives l.keys.keys.now l.leaders l.a l.q
