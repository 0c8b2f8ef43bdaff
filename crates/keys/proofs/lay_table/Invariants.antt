-- `keys::lay_table` meets its contract. The invariant: the columns from j on are laid.
use mathlib.Core.Path.{◌≡◌}
use lib.ListN.{length}
use Rattle.model.specs.Bounds.{row_bound}
use Rattle.keys.specs.Column.{LaidTable}
use Rattle.keys.proofs.lay_table.Given as goal

abbrev pub invariant-loop-j : goal.invariant-loop-j
invariant-loop-j l =
    (length l.words ≡ row_bound) × (length l.leaders ≡ row_bound)
    × LaidTable l.cat l.o l.c l.low l.reached l.end l.set l.j l.initial.keys l.keys
