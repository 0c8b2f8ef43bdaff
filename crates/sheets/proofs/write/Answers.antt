-- `sheets::write` meets its contract: the tables, and the trailer behind them.
use Rattle.model.proofs.Check.{accepted_tables}
use Rattle.sheets.proofs.Tables.{tables_room, trailer_room, whole_put}
use Rattle.sheets.proofs.write.Goals as goal

pub put_tables-end-requires : goal.put_tables-end-requires
put_tables-end-requires c =
    let start = c in
    let a = start.args in (
      start.requires.0,
      start.requires.1,
      tables_room a.shape.now a.text.now a.out.now start.requires.3,
    )

pub put_trailer-requires : goal.put_trailer-requires
put_trailer-requires c =
    let put = c in
    let start = put in
    let a = start.args in (
      start.requires.0,
      start.requires.2,
      trailer_room a.shape.now a.text.now a.out.now start.requires.3 put.put_tables-end.new.out _
          put.put_tables-end.ensures,
    )

pub returns : goal.returns
returns c =
    let put = c in
    let start = put in
    let a = start.args in
    whole_put a.shape.now a.text.now a.counts.now (accepted_tables a.shape.now start.requires.0)
    start.requires.1 a.out.now _ _ _ start.requires.3 put.put_tables-end.ensures
    c.put_trailer.ensures
