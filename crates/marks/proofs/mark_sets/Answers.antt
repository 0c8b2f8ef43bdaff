-- The answers of `marks::mark_sets`.
use native.Mathlib.Omega.{arith}
use borrow.Author.Rules.{rules}
use Rattle.evidence.proofs.Lists.{each_record, some_record}
use Rattle.marks.specs.Listed.{SetAt, NarrowSet}
use Rattle.marks.proofs.Marking.{marking_begun, marking_more, marking_done}
use Rattle.planes.proofs.Marks.{room_kept}
use Rattle.marks.proofs.mark_sets.Goals as goal

pub loop-i-init : goal.loop-i-init
loop-i-init c = marking_begun

pub mark_set-requires : goal.mark_set-requires
mark_set-requires c = (
  room_kept c.loop-i.invariant.same_length c.requires.0,
  omega arith,
  (each_record (NarrowSet c.args.m c.args.target c.args.right) c.args.records.bytes.now c.args.records.count).0 c.requires.1 _ (omega arith),
)

pub loop-i-preserved : goal.loop-i-preserved
loop-i-preserved c = marking_more c.mark_set.auto.plane c.mark_set.ensures c.loop-i.invariant

pub shape_of-plane : goal.shape_of-plane
shape_of-plane c = let g = c.loop-i.invariant.same_length in search rules

pub returns : goal.returns
returns c = marking_done (omega arith) (λ y. some_record (SetAt c.args.target c.args.right y) c.args.records.bytes.now c.args.records.count) c.loop-i.invariant
