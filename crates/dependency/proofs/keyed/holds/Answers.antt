-- `dependency::holds` meets its contract: by what the left side gives of the one right.
use Rattle.dependency.proofs.Members.{posed_few, posed_right, posed_holds}
use Rattle.dependency.proofs.keyed.holds.Goals as goal

pub right_bit-requires : goal.right_bit-requires
right_bit-requires c =
    let p = c.requires in
    let e = c.visible-members.ensures in
    (posed_few p e, posed_right p e)

pub returns : goal.returns
returns c =
    posed_holds c.requires c.given.result
    c.visible-members.ensures c.rows.ensures
    c.right_bit.ensures c.lay_question.ensures
    c.given.ensures
