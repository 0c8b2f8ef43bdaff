-- The answers of `sheets::put_rows`.
use Rattle.sheets.proofs.Rows.{rowing_begun, rowing_room, rowing_more, rowing_done}
use Rattle.sheets.proofs.put_rows.Goals as goal

pub loop-number-init : goal.loop-number-init
loop-number-init c = rowing_begun _ _ _ _ _ _

pub put_tag-to-requires : goal.put_tag-to-requires
put_tag-to-requires c =
    let pre = c.requires in (
      pre.2,
      rowing_room _ _ _ _ _ _ c.loop-number.invariant pre.0 pre.1 c.in-Some.ensures
          c.up_of.ensures c.number_at-n.ensures pre.3,
    )

pub loop-number-preserved : goal.loop-number-preserved
loop-number-preserved c =
    let pre = c.requires in
    rowing_more _ _ _ _ _ _ c.loop-number.invariant pre.0 pre.1 c.in-Some.ensures c.up_of.ensures
    c.number_at-n.ensures c.put_tag-to.ensures c.seen_after-seen.ensures

pub shape_of-out : goal.shape_of-out
shape_of-out c = c.loop-number.invariant.writing.size

pub returns : goal.returns
returns c = rowing_done _ _ _ _ _ _ c.loop-number.invariant c.in_default.ensures
