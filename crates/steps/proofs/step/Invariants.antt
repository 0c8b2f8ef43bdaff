-- `steps::step` meets its contract. The invariant: the walk is good, and has the same before it as the one that came.
-- The measure is its budget.
use Rattle.model.specs.Check.{Accepted}
use Rattle.model.specs.Listing.{ordinary}
use Rattle.steps.proofs.Stepping.{Stepping}
use Rattle.steps.proofs.step.Given as goal

abbrev pub invariant-loop-v : goal.invariant-loop-v
invariant-loop-v l = Accepted l.cat × Stepping (ordinary l.cat) l.initial.v l.v l.initial.work l.work

abbrev pub decreases-loop-v : goal.decreases-loop-v
decreases-loop-v l = l.v.budget
