-- `grouping::leader` meets its contract. The loop's invariant: c is a place in the chain of row q, and no leader from
-- there on has the word of q. The measure is the place.
use Rattle.grouping.proofs.Chains.{Walking}
use Rattle.grouping.proofs.leader.Given as goal

abbrev pub invariant-loop-c : goal.invariant-loop-c
invariant-loop-c l = Walking l.words l.links l.q l.c

abbrev pub decreases-loop-c : goal.decreases-loop-c
decreases-loop-c l = l.c
