-- `presence::is_backed` meets its contract: none of the sets so far has all of x.
use Prim.Native.Nat.{ℕ, ◌<◌}
use mathlib.Core.Path.{◌≡◌}
use lib.Bits.{bit_and}
use Rattle.table.specs.Words.{word}
use Rattle.presence.proofs.is_backed.Given as goal

abbrev pub invariant-loop-q : goal.invariant-loop-q
invariant-loop-q l = (p : ℕ) → p < l.q → bit_and l.x (word l.sets p) ≡ l.x → ⊥
