-- `marks::entries_sound` meets its contract: those passed are sound.
use Prim.Native.Nat.{ℕ, ◌<◌}
use Rattle.marks.specs.Listed.{SoundBy}
use Rattle.marks.specs.Run.{entry_of}
use Rattle.marks.proofs.entries_sound.Given as goal

abbrev pub invariant-loop-i : goal.invariant-loop-i
invariant-loop-i l =
    (k : ℕ) → k < l.i → SoundBy l.backed l.broken l.keys l.lefts l.m l.target l.right (entry_of l.list k)
