-- The answers of `presence::mark_sets`.
use native.Mathlib.Omega.{arith}
use Rattle.planes.proofs.Marks.{place_inside, room_kept}
use Rattle.presence.proofs.Sets.{marked_sets_more}
use Rattle.presence.proofs.mark_sets.Goals as goal

pub mark-requires : goal.mark-requires
mark-requires c =
    let l = c.loop-q in
    place_inside c.args.m _ l.plane (room_kept (omega arith) c.requires.1) (c.requires.2 l.q (omega arith))

pub loop-q-preserved : goal.loop-q-preserved
loop-q-preserved c = marked_sets_more _ _ _ _ _ c.loop-q.invariant c.mark.ensures
