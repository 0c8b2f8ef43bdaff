-- `sheets::put_trailer` meets its contract: the starts, and two numbers.
use Rattle.model.specs.Catalogue.{tables}
use Rattle.sheets.specs.Sheets.{starts_in}
use Rattle.sheets.proofs.Tables.{starts_long, trailer_put}
use Rattle.sheets.proofs.put_trailer.Goals as goal

pub returns : goal.returns
returns c =
    let starts = c in
    let a = starts.args in
    let n = tables a.shape.now in
    trailer_put a.out.now _ _ _ a.at _ n (starts_in a.shape.now a.counts.now n 0 0)
    starts.tables-n.ensures (starts_long a.shape.now a.counts.now n 0 0)
    starts.put_starts.ensures c.put_u16.ensures
    c.put_u32.ensures
