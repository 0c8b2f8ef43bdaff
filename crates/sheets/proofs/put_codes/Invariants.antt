-- `sheets::put_codes` meets its contract: the codes before k are written.
use Rattle.sheets.proofs.Rows.{Coding}
use Rattle.sheets.proofs.put_codes.Given as goal

abbrev pub invariant-loop-k : goal.invariant-loop-k
invariant-loop-k l = Coding l.codes l.initial.out l.at l.out l.k
