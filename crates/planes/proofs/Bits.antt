-- Laws of planes' bits: a left side as a word's index and a position in it, for bits and for 'or larger', and the masks
-- of the five low columns.
use Prim.Native.Nat.{ℕ, zero, suc, ◌+◌, ◌-◌, ◌*◌, ◌/◌, ◌%◌, ◌^◌, ◌≤◌, ◌<◌}
use mathlib.Core.Path.{◌≡◌, sym, ap, ap₂, subst, ◌∙◌}
use mathlib.Core.List.{List}
use native.Mathlib.Decide.{dec_lt}
use native.Mathlib.Omega.{arith}
use lib.Dec.{T, eqb}
use lib.Pow.{pow-add, pow-lt, pow_mono}
use Rattle.columns.specs.Bound.{column_bound}
use Rattle.columns.specs.Set.{bit}
use Rattle.columns.proofs.Bits.{bit_above, bit_below, bit_past}
use Rattle.model.specs.View.{all_below}
use Rattle.model.proofs.Truth.{eqb_is, all_below_is}
use Rattle.table.specs.Words.{word, Above}
use Rattle.planes.specs.Bits.{plane_bit, clear_of}
use Rattle.planes.specs.Plane.{seed_words}

-- a left side below 2 ^ n stands in one of the first 2 ^ (n - 5) words
pub power_words : (n : ℕ) → 5 ≤ n → 2 ^ n ≡ 2 ^ (n - 5) * 32
power_words n h = ap (λ (k : ℕ). 2 ^ k) whole ∙ pow-add 2 (n - 5) 5
  where
    whole : n ≡ n - 5 + 5
    whole = omega arith

-- and there are not many of them
pub seed_words_small : (n : ℕ) → n ≤ column_bound → seed_words n ≤ 2048
seed_words_small n h = pow_mono {i = n - 5} {j = 11} (omega arith)

-- the position of a left side gives its five low columns, and the word's index the others
pub bit_low : (i j a : ℕ) → j < 32 → a < 5 → bit (i * 32 + j) a ≡ bit j a
bit_low i j a l h =
    let e : (i * 32 + j) % 32 ≡ j = omega arith in
    sym (bit_below (i * 32 + j) a 5 h) ∙ ap (λ (z : ℕ). bit z a) e

pub bit_from : (x a : ℕ) → 5 ≤ a → bit x a ≡ bit (x / 32) (a - 5)
bit_from x a h =
    let e : a ≡ 5 + (a - 5) = omega arith in
    ap (bit x) e ∙ bit_above x 5 (a - 5)

pub bit_high : (i j a : ℕ) → j < 32 → 5 ≤ a → bit (i * 32 + j) a ≡ bit i (a - 5)
bit_high i j a l h =
    let e : (i * 32 + j) / 32 ≡ i = omega arith in
    bit_from (i * 32 + j) a h ∙ ap (λ (z : ℕ). bit z (a - 5)) e

-- 'or larger' goes by both parts
pub above_join : (x s : ℕ) → Above (x / 32) (s / 32) → Above (x % 32) (s % 32) → Above x s
above_join x s high low k i = at (dec_lt k 5)
  where
    at : Dec (k < 5) → bit s k ≡ 1
    at (yes l) = sym (bit_below s k 5 l) ∙ low k (bit_below x k 5 l ∙ i)
    at (no g) = bit_from s k (omega arith) ∙ high (k - 5) (sym (bit_from x k (omega arith)) ∙ i)

pub above_high : (x s : ℕ) → Above x s → Above (x / 32) (s / 32)
above_high x s up k i = sym (bit_above s 5 k) ∙ up (5 + k) (bit_above x 5 k ∙ i)

pub above_low : (x s : ℕ) → Above x s → Above (x % 32) (s % 32)
above_low x s up k i = at (dec_lt k 5)
  where
    at : Dec (k < 5) → bit (s % 32) k ≡ 1
    at (yes l) = bit_below s k 5 l ∙ up k (sym (bit_below x k 5 l) ∙ i)
    at (no g) = absurd (omega (arith, bit_past (x % 32) 5 k (omega arith) (omega arith)))

pub above_parts : (x t s : ℕ) → s < 32 → Above (x / 32) t → Above (x % 32) s → Above x (t * 32 + s)
above_parts x t s l high low =
    let q : t ≡ (t * 32 + s) / 32 = omega arith in
    let r : s ≡ (t * 32 + s) % 32 = omega arith in
    above_join x (t * 32 + s) (subst (λ (z : ℕ). Above (x / 32) z) q high) (subst (λ (z : ℕ). Above (x % 32) z) r low)

pub plane_bit_parts : (ws : List ℕ) (t s : ℕ) → s < 32 → plane_bit ws (t * 32 + s) ≡ bit (word ws t) s
plane_bit_parts ws t s l =
    let q : (t * 32 + s) / 32 ≡ t = omega arith in
    let r : (t * 32 + s) % 32 ≡ s = omega arith in
    ap₂ (λ (i j : ℕ). bit (word ws i) j) q r

-- the masks of the five low columns
clear_at : (k : ℕ) → T (all_below 32 (λ j. eqb (bit (clear_of k) j) (1 - bit j k))) → (j : ℕ) → j < 32
    → bit (clear_of k) j ≡ 1 - bit j k
clear_at k t j l =
    (eqb_is (bit (clear_of k) j) (1 - bit j k)).0
    ((all_below_is 32 (λ i. eqb (bit (clear_of k) i) (1 - bit i k))).0 t j l)

pub clear_bit : (k j : ℕ) → k < 5 → j < 32 → bit (clear_of k) j ≡ 1 - bit j k
unfolding all_below
clear_bit zero j h l = clear_at 0 tt j l
clear_bit (suc zero) j h l = clear_at 1 tt j l
clear_bit (suc (suc zero)) j h l = clear_at 2 tt j l
clear_bit (suc (suc (suc zero))) j h l = clear_at 3 tt j l
clear_bit (suc (suc (suc (suc zero)))) j h l = clear_at 4 tt j l
clear_bit (suc (suc (suc (suc (suc k))))) j h l = absurd (omega arith)

pub low_power : (k p : ℕ) → k < 5 → p ≡ 2 ^ k → p < 32
low_power k p h e = omega (arith, pow-lt {i = k} {j = 5} h)

pub mask_fits : (p q : ℕ) → p < 32 → q ≡ 2 ^ p → q ≤ 2 ^ 31
mask_fits p q h e = omega (arith, pow_mono {i = p} {j = 31} (omega arith))
