-- The answers of `presence::note`.
use mathlib.Core.Path.{refl}
use native.Mathlib.Omega.{arith}
use Rattle.presence.proofs.Sets.{noted_more}
use Rattle.presence.proofs.note.Goals as goal

pub loop-row-preserved : goal.loop-row-preserved
loop-row-preserved c =
    let l = c.loop-row in
    noted_more c.args.b _ _ _ l.row _ _ refl c.power-bit.ensures (omega (arith, c.requires.2 l.row (omega arith)))
    l.invariant
