-- `search::mark_leaders` meets its contract: the rows so far are looked at.
use mathlib.Core.Path.{◌≡◌}
use lib.ListN.{length}
use Rattle.model.specs.Bounds.{row_bound}
use Rattle.search.specs.Strays.{MarkedBelow}
use Rattle.search.proofs.mark_leaders.Given as goal

abbrev pub invariant-loop-q : goal.invariant-loop-q
invariant-loop-q l = (length l.marks ≡ row_bound) × MarkedBelow l.keys.keys.now l.leaders l.right l.q l.marks
