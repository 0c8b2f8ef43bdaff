-- `partition::given_members` meets its contract. The invariant: the members below a are told.
use Rattle.partition.specs.Partition.{GivenBelow}
use Rattle.partition.proofs.given_members.Given as goal

abbrev pub invariant-loop-a : goal.invariant-loop-a
invariant-loop-a l = GivenBelow l.keys.keys.now l.leaders l.keys.rows l.wanted l.a l.given
