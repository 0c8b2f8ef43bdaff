-- `sheets::put_starts` meets its contract: the starts of the tables before this one are written.
use Rattle.sheets.proofs.Tables.{Starting}
use Rattle.sheets.proofs.put_starts.Given as goal

abbrev pub invariant-loop-table : goal.invariant-loop-table
invariant-loop-table l = Starting l.shape l.counts l.initial.out l.at l.out l.table l.start
