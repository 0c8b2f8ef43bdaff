-- The answers of `sheets::put_codes`.
use Rattle.sheets.proofs.Rows.{coding_begun, coding_room, coding_more, coding_done}
use Rattle.sheets.proofs.put_codes.Goals as goal

pub loop-k-init : goal.loop-k-init
loop-k-init c = coding_begun _ _ _

pub put_u32-requires : goal.put_u32-requires
put_u32-requires c = coding_room _ _ _ c.loop-k.invariant c.loop-k-test.true c.requires

pub loop-k-preserved : goal.loop-k-preserved
loop-k-preserved c = coding_more _ _ _ c.loop-k.invariant c.loop-k-test.true c.put_u32.ensures

pub shape_of-out : goal.shape_of-out
shape_of-out c = c.loop-k.invariant.writing.size

pub returns : goal.returns
returns c = coding_done _ _ _ c.loop-k.invariant c.loop-k-test.false
