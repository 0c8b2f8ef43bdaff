-- A number read from the end of a file on is 0.
use Prim.Native.Nat.{ℕ, ◌+◌, ◌≤◌}
use mathlib.Core.Path.{◌≡◌}
use mathlib.Core.List.{List}
use native.Mathlib.Omega.{arith}
use lib.ListN.{length, get_or-eq_default}
use Rattle.model.specs.Bytes.{byte_at, u16_at, u32_at}

byte_past : (b : List ℕ) (i k : ℕ) → length b ≤ i → byte_at b (i + k) ≡ 0
byte_past b i k h = get_or-eq_default b 0 (omega arith)

pub u16_past : (b : List ℕ) (i : ℕ) → length b ≤ i → 0 ≡ u16_at b i
unfolding u16_at
u16_past b i h = simp (get_or-eq_default b 0 h, byte_past b i 1 h)

pub u32_past : (b : List ℕ) (i : ℕ) → length b ≤ i → 0 ≡ u32_at b i
unfolding u32_at
u32_past b i h = simp (get_or-eq_default b 0 h, byte_past b i 1 h, byte_past b i 2 h, byte_past b i 3 h)
