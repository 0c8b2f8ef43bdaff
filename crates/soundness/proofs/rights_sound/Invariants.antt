-- `soundness::rights_sound` meets its contract. The invariant: the entries for the rights below bit a are sound.
use Prim.Native.Nat.{ℕ, ◌≤◌, ◌<◌}
use Rattle.marks.specs.Run.{entries_of}
use Rattle.soundness.proofs.Laws.{SoundAt}
use Rattle.soundness.proofs.rights_sound.Given as goal

abbrev pub invariant-loop-a : goal.invariant-loop-a
invariant-loop-a l =
    (k : ℕ) → k < l.a → l.low ≤ k → SoundAt (entries_of l.list) l.target l.n l.m l.seeds l.backed k
