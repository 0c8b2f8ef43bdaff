-- `tags::less_in` meets its contract: while none was counted, none was there.
use Prim.Native.Nat.{◌≤◌}
use mathlib.Core.Path.{◌≡◌}
use Rattle.tags.specs.Next.{Without}
use Rattle.tags.proofs.less_in.Given as goal

abbrev pub invariant-loop-x : goal.invariant-loop-x
invariant-loop-x l = (l.n ≤ l.x-index) × (l.n ≡ 0 → Without l.s l.i l.x-index)
