-- `count_from` meets its contract: what is counted and the entries from the place on make the whole, and no call is
-- refused. The measure is the number of places left. Assumes nothing.
use Prim.Native.Nat.{◌+◌, ◌-◌, ◌≤◌}
use mathlib.Core.Path.{◌≡◌}
use lib.ListN.{length, drop}
use Rattle.model.specs.Calls.{flat}
use Rattle.model.specs.Listing.{cells, ordinary}
use Rattle.pages.proofs.count_from.Given as goal

abbrev pub invariant-loop-from : goal.invariant-loop-from
invariant-loop-from l = (length l.work ≡ length l.initial.work)
    × (l.from ≤ l.last)
    × (l.sum + length (flat (drop l.from (cells (ordinary l.cat))))
    ≡ l.before + length (flat (drop l.place (cells (ordinary l.cat)))))

abbrev pub decreases-loop-from : goal.decreases-loop-from
decreases-loop-from l = l.last - l.from
