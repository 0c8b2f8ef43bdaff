-- `partition::minimal_alone` meets its contract. The invariant: the rights kept are those given that need the members
-- below k.
use Prim.Native.Nat.{ℕ}
use mathlib.Core.Path.{◌≡◌}
use mathlib.Core.Logic.{◌↔◌}
use Rattle.columns.specs.Set.{bit}
use Rattle.partition.specs.Partition.{Needs}
use Rattle.partition.proofs.minimal_alone.Given as goal

abbrev pub invariant-loop-k : goal.invariant-loop-k
invariant-loop-k l =
    (a : ℕ) → (bit l.kept a ≡ 1)
    ↔ ((bit l.initial.kept a ≡ 1) × Needs l.keys.keys.now l.keys.members l.keys.rows l.x l.k a)
