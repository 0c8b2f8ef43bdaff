-- The entries so far are written, and the rest of the output is as it was.
use mathlib.Core.Path.{◌≡◌}
use mathlib.Core.List.{◌++◌}
use Prim.Native.Nat.{◌*◌}
use lib.ListN.{take, drop}
use Rattle.model.specs.Entries.{entry_bytes, entries_bytes}
use Rattle.packing.proofs.write_list.Given as goal

abbrev pub invariant-loop-i : goal.invariant-loop-i
invariant-loop-i l = l.out ≡ entries_bytes (take l.i l.entries) ++ drop (entry_bytes * l.i) l.fn.out
