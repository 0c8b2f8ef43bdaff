-- The answers of `table::minimal_rights`.
use native.Mathlib.Omega.{arith}
use Rattle.table.proofs.Reading.{reading_begun, reading_more}
use Rattle.table.proofs.Reading.{lowest_part}
use Rattle.table.proofs.minimal_rights.Goals as goal

pub loop-rest-init : goal.loop-rest-init
loop-rest-init c = reading_begun _ _ _ _ _ c.lacking.ensures c.lacking-rights.ensures

pub overflow_sub-rights-in-loop-rest : goal.overflow_sub-rights-in-loop-rest
overflow_sub-rights-in-loop-rest c = lowest_part _ _ (omega arith) c.loop-rest.invariant.within

pub loop-rest-preserved : goal.loop-rest-preserved
loop-rest-preserved c = reading_more _ _ _ _ _ (omega arith) c.loop-rest.invariant
