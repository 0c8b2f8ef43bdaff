-- `sheets::size` meets its contract: the sizes of the tables before this one are added up.
use Rattle.sheets.proofs.Tables.{Sizing}
use Rattle.sheets.proofs.size.Given as goal

abbrev pub invariant-loop-table : goal.invariant-loop-table
invariant-loop-table l = Sizing l.shape l.counts l.table l.sum
