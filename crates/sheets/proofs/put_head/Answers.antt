-- `sheets::put_head` meets its contract: three numbers.
use Rattle.sheets.proofs.Tables.{head_put}
use Rattle.sheets.proofs.put_head.Goals as goal

pub returns : goal.returns
returns c =
    let second = c in
    head_put _ _ _ _ _ _ _ _ second.put_u16.ensures second.put_u16-2.ensures
    c.put_u16-3.ensures
