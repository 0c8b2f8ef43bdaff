-- The answers of `marks::mark_lefts`.
use native.Mathlib.Omega.{arith}
use borrow.Author.Rules.{rules}
use Rattle.evidence.proofs.Lists.{each_entry, some_entry}
use Rattle.marks.specs.Listed.{LeftAt, NarrowLeft}
use Rattle.marks.proofs.Marking.{marking_begun, marking_more, marking_done}
use Rattle.planes.proofs.Marks.{room_kept}
use Rattle.marks.proofs.mark_lefts.Goals as goal

pub loop-i-init : goal.loop-i-init
loop-i-init c = marking_begun

pub mark_left-requires : goal.mark_left-requires
mark_left-requires c = (
  room_kept c.loop-i.invariant.same_length c.requires.0,
  omega arith,
  (each_entry (NarrowLeft c.args.m c.args.target c.args.right) c.args.list.file.now c.args.list.count c.args.list.first).0 c.requires.1 _ (omega arith),
)

pub loop-i-preserved : goal.loop-i-preserved
loop-i-preserved c = marking_more c.mark_left.auto.plane c.mark_left.ensures c.loop-i.invariant

pub shape_of-plane : goal.shape_of-plane
shape_of-plane c = let g = c.loop-i.invariant.same_length in search rules

pub returns : goal.returns
returns c = marking_done (omega arith) (λ y. some_entry (LeftAt c.args.m c.args.target c.args.right y) c.args.list.file.now c.args.list.count c.args.list.first) c.loop-i.invariant
