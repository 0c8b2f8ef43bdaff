-- `soundness::right_sound` meets its contract.
use native.Mathlib.Omega.{arith}
use Rattle.planes.proofs.Bits.{seed_words_small}
use Rattle.evidence.proofs.Sides.{lefts_narrow}
use Rattle.planes.proofs.Marks.{blank_room}
use Rattle.soundness.proofs.Laws.{sound_in}
use Rattle.soundness.proofs.right_sound.Goals as goal

pub fill-requires : goal.fill-requires
fill-requires c =
    let room = c.requires.3 in
    (room.word, room.few, omega arith, room.fits, seed_words_small c.args.m room.few)

pub close_lefts-requires : goal.close_lefts-requires
close_lefts-requires c =
    let room = c.requires.3 in
    (blank_room c.args.m room.word room.few, lefts_narrow _ _ _ _ _ c.requires.0 c.requires.5)

pub entries_sound-requires : goal.entries_sound-requires
entries_sound-requires c =
    let room = c.requires.3 in
    let small = seed_words_small c.args.m room.few in (
      c.requires.4,
      record { word = room.word; few = room.few; fits = omega arith },
      c.requires.6,
      record { word = room.word; few = room.few; fits = omega arith },
      lefts_narrow _ _ _ _ _ c.requires.0 c.requires.5,
    )

pub returns : goal.returns
returns c v en eq sown there =
    let right = c.right_at-right in
    sound_in v _ _ c.args.n c.args.m c.args.a right.result _ c.args.backed.now _
    c.args.keys.now _ c.requires.0 c.requires.1 c.requires.2 right.ensures c.requires.5 c.fill.ensures
    c.requires.7 c.close_lefts.ensures c.entries_sound.ensures en eq sown there
