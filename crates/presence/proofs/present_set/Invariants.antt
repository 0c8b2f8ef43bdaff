-- `presence::present_set` meets its contract. The invariant: how far the climb has come. The measure is the table's
-- number.
use Rattle.presence.proofs.Climbing.{Climbing}
use Rattle.presence.proofs.present_set.Given as goal

abbrev pub invariant-climb : goal.invariant-climb
invariant-climb l = Climbing l.cat l.target.table l.p l.at l.row l.above l.set

abbrev pub decreases-climb : goal.decreases-climb
decreases-climb l = l.at
