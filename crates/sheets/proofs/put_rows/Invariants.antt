-- `sheets::put_rows` meets its contract: the rows of the tags before p are written. The measure is what is left of the
-- text.
use Prim.Native.Nat.{◌-◌}
use lib.ListN.{length}
use Rattle.sheets.proofs.Rows.{Rowing}
use Rattle.sheets.proofs.put_rows.Given as goal

abbrev pub invariant-loop-number : goal.invariant-loop-number
invariant-loop-number l = Rowing l.s l.columns l.above l.table l.initial.out l.at l.p l.seen l.out l.to

abbrev pub decreases-loop-number : goal.decreases-loop-number
decreases-loop-number l = length l.s - l.p
