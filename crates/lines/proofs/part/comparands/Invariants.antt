-- `lines::part::comparands` meets its contract. The invariant: the first j members are there.
use Prim.Native.Nat.{ℕ, ◌<◌}
use mathlib.Core.Path.{◌≡◌}
use lib.ListN.{length, get_or}
use Rattle.lines.specs.declared.part.Comparand.{Comparand}
use Rattle.lines.specs.Lines.{part_members}
use Rattle.lines.specs.Compares.{Compares}
use Rattle.lines.proofs.part.comparands.Given as goal

abbrev pub invariant-loop-j : goal.invariant-loop-j
invariant-loop-j l = record {
  long : length l.members ≡ part_members;
  each : (j : ℕ) (d : Comparand) → j < l.j → Compares l.bytes l.few l.x l.v j (get_or l.members j d);
}
