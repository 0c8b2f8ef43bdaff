-- `grounds::start_of` meets its contract.
use mathlib.Core.Path.{◌∙◌}
use Rattle.grounds.proofs.Starts.{start_first, start_after}
use Rattle.grounds.proofs.start_of.Goals as goal

pub returns-then-table-eq0 : goal.returns-then-table-eq0
returns-then-table-eq0 c =
    let args = c.args in
    start_first args.cat.now args.table c.if-table-eq0.true

pub returns : goal.returns
returns c =
    let args = c.args in
    c.table_end.ensures.is ∙ start_after args.cat.now args.table c.if-table-eq0.false
