-- `scan::gathered` meets its contract. The invariant: the first j bits are gathered.
use mathlib.Core.Path.{◌≡◌}
use Prim.Native.Nat.{◌+◌, ◌*◌}
use Rattle.columns.specs.Set.{set_below}
use Rattle.scan.specs.SeenSets.{seen_at}
use Rattle.scan.proofs.seeds.gathered.Given as goal

abbrev pub invariant-loop-j : goal.invariant-loop-j
invariant-loop-j l = l.w ≡ set_below l.j (λ j. seen_at l.seen (l.i * 32 + j))
