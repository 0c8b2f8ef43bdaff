-- `presence::close_rows` meets its contract.
use native.Mathlib.Omega.{arith}
use Rattle.planes.proofs.Bits.{seed_words_small}
use Rattle.planes.proofs.Marks.{blank_room}
use Rattle.planes.proofs.Backed.{marked_backed}
use Rattle.presence.proofs.close_rows.Goals as goal

pub mark_sets-requires : goal.mark_sets-requires
mark_sets-requires c =
    let s = c in
    let r = s.requires.1 in
    (omega arith, blank_room s.args.m r.word r.few, s.requires.2)

pub fill-requires : goal.fill-requires
fill-requires c =
    let s = c in
    let r = s.requires.1 in
    let h = seed_words_small s.args.m r.few in
    (omega arith, omega arith, omega arith, omega arith, omega arith)

pub returns : goal.returns
returns c =
    let s = c in
    λ v n h laid.
    marked_backed v n s.args.m 2048 s.args.end s.args.sets.now _ _ laid h
    c.mark_sets.ensures c.fill.ensures
