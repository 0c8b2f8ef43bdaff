-- `keys::lay` meets its contract. The invariant: how far the walk has come. The measure is the table's number.
use Rattle.keys.proofs.Laying.{Laying}
use Rattle.keys.proofs.lay.Given as goal

abbrev pub invariant-climb : goal.invariant-climb
invariant-climb l = Laying l.cat l.target.table l.set l.at l.above l.reached l.keys

abbrev pub decreases-climb : goal.decreases-climb
decreases-climb l = l.at
