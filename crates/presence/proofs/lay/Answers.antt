-- The answers of `presence::lay`.
use mathlib.Core.Path.{refl}
use native.Mathlib.Omega.{arith}
use Rattle.filled.proofs.Filled.{filled_more, filled_first}
use Rattle.presence.proofs.lay.Goals as goal

pub loop-q-preserved : goal.loop-q-preserved
loop-q-preserved c =
    filled_more c.loop-q.invariant refl (omega arith) (omega (arith, c.rows-q-end.ensures.few)) c.present_set.ensures

pub returns : goal.returns
returns c = record {
  rows = refl;
  members = refl;
  each = λ p h. filled_first c.loop-q.invariant p (omega (arith, c.rows-q-end.ensures.is));
}
