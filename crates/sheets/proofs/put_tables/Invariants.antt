-- `sheets::put_tables` meets its contract: the tables before this one are written.
use Rattle.model.specs.Convert.{tags_in}
use Rattle.sheets.proofs.Tables.{Tabling}
use Rattle.sheets.proofs.put_tables.Given as goal

abbrev pub invariant-loop-table : goal.invariant-loop-table
invariant-loop-table l = Tabling l.shape (tags_in l.s) l.initial.out l.out l.table l.at
