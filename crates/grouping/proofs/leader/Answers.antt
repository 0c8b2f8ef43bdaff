-- The answers of `grouping::leader`. docs/PROVING.md shows those of the loop.
use native.Mathlib.Omega.{arith}
use Rattle.grouping.proofs.Chains.{walking_begun, walking_more, walking_found, walking_done}
use Rattle.grouping.proofs.leader.Goals as goal

pub loop-c-init : goal.loop-c-init
loop-c-init c = walking_begun _ _ _ _ c.requires.linked_below c.requires.last_in

pub returns-then-words-c : goal.returns-then-words-c
returns-then-words-c c = walking_found _ _ _ _ c.loop-c.invariant (omega arith) c.if-words-c.true

pub loop-c-preserved : goal.loop-c-preserved
loop-c-preserved c = walking_more _ _ _ _ c.loop-c.invariant (omega arith) c.if-words-c.false

pub returns : goal.returns
returns c = walking_done _ _ _ _ c.loop-c.invariant (omega arith)
