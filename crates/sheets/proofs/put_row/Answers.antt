-- `sheets::put_row` meets its contract: the parent row, and the codes that were read.
use lib.ListN.{drop}
use Rattle.model.specs.Form.{cells_in}
use Rattle.sheets.proofs.Rows.{row_put}
use Rattle.sheets.proofs.put_row.Goals as goal

pub returns : goal.returns
returns c =
    let read = c in
    let start = read in
    row_put _ _ _ _ _ _ _ (cells_in (drop start.args.p start.args.s.now)) read.read_codes.ensures
    start.requires.0 c.put_u16.ensures
    c.put_codes.ensures
