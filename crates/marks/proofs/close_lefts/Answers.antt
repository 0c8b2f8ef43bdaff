-- `marks::close_lefts` meets its contract.
use native.Mathlib.Omega.{arith}
use Rattle.marks.proofs.Closed.{lefts_closed}
use Rattle.planes.proofs.Bits.{seed_words_small}
use Rattle.planes.proofs.Marks.{blank_room}
use Rattle.marks.proofs.close_lefts.Goals as goal

pub mark_lefts-requires : goal.mark_lefts-requires
mark_lefts-requires c =
    (blank_room c.args.m (omega arith) (omega arith), c.requires.1)

pub fill-requires : goal.fill-requires
fill-requires c =
    let r = c.requires.0 in
    let h = seed_words_small c.args.m r.few in
    (omega arith, omega arith, omega arith, omega arith, omega arith)

pub returns : goal.returns
returns c =
    lefts_closed _ _ _ _ 2048 _ _ c.requires.1 c.mark_lefts.ensures
    c.fill.ensures
