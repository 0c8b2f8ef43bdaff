-- The answer of `partition::join`.
use native.Mathlib.Omega.{arith}
use Rattle.filled.proofs.Filled.{filled_first}
use Rattle.partition.proofs.Leading.{led_joined}
use Rattle.partition.proofs.join.Goals as goal

pub returns : goal.returns
returns c =
    let f = c.loop-q.invariant in
    λ x s i led. led_joined _ _ x _ _ s led _ _ _ i
    (λ q l. (f.small q (omega arith), filled_first f.words q (omega arith))) c.group.ensures
