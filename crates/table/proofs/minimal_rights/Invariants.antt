-- `table::minimal_rights` meets its contract. The loop's invariant: `rights` are those read for the members of `x`
-- that are passed.
use Rattle.table.proofs.Reading.{Reading}
use Rattle.table.proofs.minimal_rights.Given as goal

abbrev pub invariant-loop-rest : goal.invariant-loop-rest
invariant-loop-rest l = Reading l.words l.x l.own l.rest l.rights

abbrev pub decreases-loop-rest : goal.decreases-loop-rest
decreases-loop-rest l = l.rest
