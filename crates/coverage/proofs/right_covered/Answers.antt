-- `coverage::right_covered` meets its contract.
use native.Mathlib.Omega.{arith}
use borrow.Author.Rules.{rules}
use Rattle.evidence.proofs.Sides.{lefts_narrow, sets_narrow}
use Rattle.planes.proofs.Marks.{blank_room, room_kept}
use Rattle.coverage.proofs.Laws.{right_covered_is}
use Rattle.coverage.proofs.right_covered.Goals as goal

pub close_lefts-requires : goal.close_lefts-requires
close_lefts-requires c =
    let room = c.requires.2 in
    (blank_room _ room.word room.few, lefts_narrow _ _ _ _ _ c.requires.0 c.requires.3)

pub close_sets-requires : goal.close_sets-requires
close_sets-requires c =
    let room = c.requires.2 in
    (blank_room _ room.word room.few, sets_narrow _ _ _ _ _ c.requires.0 c.requires.4)

pub all_covered-requires : goal.all_covered-requires
all_covered-requires c =
    let given = c.requires.2 in
    let room = blank_room _ given.word given.few in (
      given,
      c.requires.5,
      room_kept (search rules) room,
      room_kept (search rules) room,
      c.requires.0,
      omega (arith, c.requires.0, c.requires.1),
    )

pub returns : goal.returns
returns c v en there =
    right_covered_is v _ _ _ _ _ _ _ c.args.backed.now c.args.keys.now _ _ c.right_at-right.ensures
    c.requires.0 en there c.requires.6 c.close_lefts.ensures c.close_sets.ensures c.all_covered.ensures
