-- `tags::count_rows` meets its contract: the counts of what was passed and of what is ahead are those of the whole. The
-- measure is what is left of the text.
use Prim.Native.Nat.{◌-◌}
use lib.ListN.{length}
use Rattle.tags.proofs.Counts.{Counting}
use Rattle.tags.proofs.count_rows.Given as goal

abbrev pub invariant-loop-number : goal.invariant-loop-number
invariant-loop-number l = Counting l.s l.p l.counts

abbrev pub decreases-loop-number : goal.decreases-loop-number
decreases-loop-number l = length l.s - l.p
