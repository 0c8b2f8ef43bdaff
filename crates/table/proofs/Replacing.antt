-- Words that are replaced in a pass over all 2 ^ n of them, block by block of 2 ^ m.
use Prim.Native.Nat.{ℕ, zero, suc, ◌+◌, ◌-◌, ◌*◌, ◌/◌, ◌%◌, ◌^◌, ◌≤◌, ◌<◌}
use mathlib.Core.Path.{◌≡◌, refl, ap, ap₂, ◌∙◌}
use mathlib.Core.List.{List}
use native.Mathlib.Nat.{add-mod_right}
use native.Mathlib.Numerals.{add-one}
use native.Mathlib.Omega.{arith}
use lib.Bits.{bit_or, or_zero_l, or_zero_r, or_lt, or_block}
use lib.ListN.{length, set}
use lib.Pow.{pow_mono, pow_pos, split}
use Rattle.filled.specs.Filled.{Filled}
use Rattle.filled.proofs.Filled.{filled_none, filled_more, filled_moved, filled_then}

-- a place y in a block of 2 ^ m places from a on, with columns of s that are below m
pub or_in_block : (m a s y : ℕ) → a % 2 ^ m ≡ 0 → s < 2 ^ m → a ≤ y → y < a + 2 ^ m → bit_or y s ≡ a + bit_or (y - a) s
or_in_block m a s y e l g h =
    let q = a / 2 ^ m in
    let r = y - a in
    let p : q * 2 ^ m ≡ a = omega (arith, split a m) in
    let i : y ≡ q * 2 ^ m + r = omega arith in
    let j : s ≡ 0 * 2 ^ m + s = omega arith in
    ap₂ bit_or i j ∙ or_block m q 0 r s (omega arith) l
    ∙ ap (λ (z : ℕ). z * 2 ^ m + bit_or r s) (or_zero_r q) ∙ ap (λ (z : ℕ). z + bit_or r s) p

-- a block that begins before the end, ends there or before
block_fits : (n m a : ℕ) → a % 2 ^ m ≡ 0 → m ≤ n → a < 2 ^ n → a + 2 ^ m ≤ 2 ^ n
block_fits n m a e l h =
    let p = pow_pos m in
    let o = or_in_block m a (2 ^ m - 1) a e (omega arith) (omega arith) (omega arith) in
    let b = or_lt n a (2 ^ m - 1) h (omega (arith, pow_mono l)) in
    let z : a - a ≡ 0 = omega arith in
    let g = ap (λ (z : ℕ). bit_or z (2 ^ m - 1)) z ∙ or_zero_l (2 ^ m - 1) in
    omega arith

-- what a pass over the blocks knows: the words below `start`, where a block begins, are replaced
pub record Replacing (n m end start : ℕ) (f : ℕ → ℕ) (before after : List ℕ) : Type 0 where
  pub up_to : start ≤ end
  pub is_end : end ≡ 2 ^ n
  pub size_below : m ≤ n
  pub enough : 2 ^ n ≤ length before
  pub same_length : length after ≡ length before
  pub aligned : start % 2 ^ m ≡ 0
  pub words : Filled 0 start f before after

pub replacing_fits : (n m end start : ℕ) (f : ℕ → ℕ) (before after : List ℕ) → start < end
    → Replacing n m end start f before after → (0 < 2 ^ m) × (start + 2 ^ m ≤ end) × (end ≤ length after)
replacing_fits n m end start f before after h p =
    let e = p.is_end in
    let l = p.enough in
    let s = p.same_length in
    let b = block_fits n m start p.aligned p.size_below (omega arith) in
    (pow_pos m, omega arith, omega arith)

-- the block at `start` replaced, by words that are the same from there on
pub replacing_more : (n m end start next : ℕ) (f g : ℕ → ℕ) (before mid after : List ℕ) → start < end
    → next ≡ start + 2 ^ m → Replacing n m end start f before mid → Filled start next g mid after
    → ((y : ℕ) → start ≤ y → g y ≡ f y) → Replacing n m end next f before after
replacing_more n m end start next f g before mid after h i p r same =
    let b = replacing_fits n m end start f before mid h p in
    record {
      up_to = omega arith;
      is_end = p.is_end;
      size_below = p.size_below;
      enough = p.enough;
      same_length = r.same_length ∙ p.same_length;
      aligned = ap (λ (z : ℕ). z % 2 ^ m) i ∙ add-mod_right start (2 ^ m) ∙ p.aligned;
      words =
          filled_then 0 start next f g before mid after (omega arith) (omega arith) p.words r
          (λ y a c. same y a);
    }

pub replacing_done : (n m end start : ℕ) (f : ℕ → ℕ) (before after : List ℕ) → end ≤ start
    → Replacing n m end start f before after → Filled 0 (2 ^ n) f before after
replacing_done n m end start f before after h p =
    let l = p.up_to in
    let e : start ≡ 2 ^ n = omega (arith, p.is_end) in
    filled_moved e p.words

-- there are words that have become those of f
pub filled_some : (m : ℕ) (f : ℕ → ℕ) (ws : List ℕ) → m ≤ length ws
    → (after : List ℕ) × Filled 0 m f ws after
filled_some zero f ws l = (ws, filled_none)
filled_some (suc m) f ws l =
    let r = filled_some m f ws (omega arith) in (
      set r.0 m (f m),
      filled_moved (add-one m) (filled_more r.1 refl (omega arith) (omega arith) refl),
    )
