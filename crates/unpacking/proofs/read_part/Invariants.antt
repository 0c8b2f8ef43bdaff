-- The first n records have their entries, and the others are as they were.
use mathlib.Core.Path.{◌≡◌}
use mathlib.Core.List.{◌++◌}
use lib.ListN.{drop}
use Rattle.model.specs.Entries.{entries_from}
use Rattle.unpacking.proofs.read_part.Given as goal

abbrev pub invariant-loop-n : goal.invariant-loop-n
invariant-loop-n l = l.slot-items ≡ entries_from l.file l.n l.at ++ drop l.n l.initial.slot-items
