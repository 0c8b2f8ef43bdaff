-- The answers of `planes::fill`.
use native.Mathlib.Omega.{arith}
use Rattle.planes.proofs.Filling.{filling_more, filled}
use Rattle.planes.proofs.fill.Goals as goal

pub loop-i-preserved : goal.loop-i-preserved
loop-i-preserved c =
    filling_more _ _ _ _ _ _ (omega arith) c.select.ensures c.close_word.ensures c.loop-i.invariant

pub returns : goal.returns
returns c = filled _ _ _ _ _ (omega arith) (λ y l. c.loop-i.invariant y (omega arith)) c.close.ensures
