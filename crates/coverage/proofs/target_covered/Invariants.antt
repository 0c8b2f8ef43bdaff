-- `coverage::target_covered` meets its contract. The invariant: the sets of the rights that are passed are covered.
use Prim.Native.Nat.{ℕ, ◌≤◌, ◌<◌}
use Rattle.layout.specs.Targets.{view_of}
use Rattle.evidence.specs.Run.{records_of}
use Rattle.marks.specs.Run.{entries_of}
use Rattle.coverage.specs.Covered.{RightCovered}
use Rattle.coverage.proofs.target_covered.Given as goal

abbrev pub invariant-loop-a : goal.invariant-loop-a
invariant-loop-a l =
    (k : ℕ) → k < l.a → l.low ≤ k
    → RightCovered (view_of l.target) (entries_of l.list) (records_of l.records) l.target.table l.n k
