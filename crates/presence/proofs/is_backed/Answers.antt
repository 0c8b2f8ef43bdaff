-- The answers of `presence::is_backed`.
use native.Mathlib.Omega.{arith}
use Rattle.presence.proofs.Sets.{found_backed, unfound_backed}
use Rattle.presence.proofs.is_backed.Goals as goal

pub returns-then-x-sets : goal.returns-then-x-sets
returns-then-x-sets c = λ v n laid l. found_backed _ _ _ v n laid l c.loop-q.q (omega arith) c.if-x-sets.true

pub returns : goal.returns
returns c = λ v n laid l. unfound_backed _ _ _ v n laid l (λ q i. c.loop-q.invariant q (omega arith))
