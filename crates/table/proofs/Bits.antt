-- Laws of bits, for every width: of joined, masked and complemented numbers, of a power of two, of the lowest bit,
-- of the mask of a test, and of words that are all 0.
use Prim.Native.Nat.{ℕ, zero, suc, ◌+◌, ◌-◌, ◌/◌, ◌%◌, ◌^◌, ◌≤◌, ◌<◌, min, max}
use mathlib.Core.Path.{◌≡◌, refl, sym, ap, ◌∙◌}
use mathlib.Core.Logic.{◌↔◌}
use mathlib.Core.Bool.{Bool, true, false}
use native.Mathlib.Nat.{one-mul, mul-mod_left, two-pow-succ}
use native.Mathlib.Decide.{dec_lt}
use native.Mathlib.Omega.{arith}
use lib.Arith.{bin_ind}
use lib.Bits.{bit_and, bit_or, bit_xor, differ, or_step, xor_step, and_step, or_shr, xor_shr}
use lib.Bits.{or_lt, or_add_and, and_le_r, and_self}
use lib.Dec.{T}
use lib.ListN.{replicate}
use lib.Pow.{pow-lt, shl-shr}
use Rattle.columns.specs.Set.{bit, without_of}
use Rattle.columns.specs.Test.{pick}
use Rattle.columns.proofs.SetBelow.{set_below_lt, set_below_bit}
use Rattle.columns.proofs.Bits.{low_bit, bit_zero, bit_suc, bit_below, bit_past, bit_and_lem, without_some}
use Rattle.columns.specs.Set.{set_below}
use Rattle.table.specs.Words.{word, lacking_of}

-- the bits of either
or_low : (a b : ℕ) → bit_or a b % 2 ≡ max (a % 2) (b % 2)
or_low a b = low_bit (bit_or a b) (bit_or (a / 2) (b / 2)) (max (a % 2) (b % 2)) (or_step a b) (omega arith)

pub bit_or_lem : (x y k : ℕ) → bit (bit_or x y) k ≡ max (bit x k) (bit y k)
bit_or_lem x y k = ap (λ (z : ℕ). z % 2) (or_shr x y k) ∙ or_low (x / 2 ^ k) (y / 2 ^ k)

pub or_ge_left : (x y : ℕ) → x ≤ bit_or x y
or_ge_left x y = omega (arith, or_add_and x y, and_le_r x y)

-- the bits of one and not of the other
differ_lt : (x y : ℕ) → x < 2 → y < 2 → differ x y < 2
differ_lt zero y hx hy = hy
differ_lt (suc x) zero hx hy = hx
differ_lt (suc zero) (suc zero) hx hy = omega arith
differ_lt (suc zero) (suc (suc y)) hx hy = absurd (omega arith)
differ_lt (suc (suc x)) (suc y) hx hy = absurd (omega arith)

xor_low : (a b : ℕ) → bit_xor a b % 2 ≡ differ (a % 2) (b % 2)
xor_low a b =
    low_bit (bit_xor a b) (bit_xor (a / 2) (b / 2)) (differ (a % 2) (b % 2)) (xor_step a b)
    (differ_lt (a % 2) (b % 2) (omega arith) (omega arith))

bit_xor_lem : (x y k : ℕ) → bit (bit_xor x y) k ≡ differ (bit x k) (bit y k)
bit_xor_lem x y k = ap (λ (z : ℕ). z % 2) (xor_shr x y k) ∙ xor_low (x / 2 ^ k) (y / 2 ^ k)

digit_lacking : (x y : ℕ) → x < 2 → y < 2 → differ x (min x y) ≡ x - y
digit_lacking zero zero hx hy = refl
digit_lacking zero (suc zero) hx hy = refl
digit_lacking (suc zero) zero hx hy = refl
digit_lacking (suc zero) (suc zero) hx hy = refl
digit_lacking zero (suc (suc y)) hx hy = absurd (omega arith)
digit_lacking (suc zero) (suc (suc y)) hx hy = absurd (omega arith)
digit_lacking (suc (suc x)) y hx hy = absurd (omega arith)

pub bit_lacking : (x y k : ℕ) → bit (lacking_of x y) k ≡ bit x k - bit y k
bit_lacking x y k =
    bit_xor_lem x (bit_and x y) k ∙ ap (differ (bit x k)) (bit_and_lem x y k)
    ∙ digit_lacking (bit x k) (bit y k) (omega arith) (omega arith)

-- 0 has no bit, and a power of two has one
pub bit_none : (k : ℕ) → bit 0 k ≡ 0
bit_none k = bit_past 0 0 k (omega arith) (omega arith)

pub bit_power_same : (k : ℕ) → bit (2 ^ k) k ≡ 1
bit_power_same k =
    ap (λ (p : ℕ). p / 2 ^ k % 2) (sym (one-mul (2 ^ k))) ∙ ap (λ (q : ℕ). q % 2) (shl-shr 1 k)

power_mod : (k : ℕ) → 2 ^ k % 2 ^ k ≡ 0
power_mod k = ap (λ (p : ℕ). p % 2 ^ k) (sym (one-mul (2 ^ k))) ∙ mul-mod_left 1 (2 ^ k)

pub bit_power_other : (j k : ℕ) → (j ≡ k → ⊥) → bit (2 ^ k) j ≡ 0
bit_power_other j k n = at (dec_lt j k)
  where
    at : Dec (j < k) → bit (2 ^ k) j ≡ 0
    at (yes l) = sym (bit_below (2 ^ k) j k l) ∙ ap (λ (z : ℕ). bit z j) (power_mod k) ∙ bit_none j
    at (no g) = bit_past (2 ^ k) j j (pow-lt (omega arith)) (omega arith)

-- x with bit k
pub bit_with_same : (x k : ℕ) → bit (bit_or x (2 ^ k)) k ≡ 1
bit_with_same x k = omega (arith, bit_or_lem x (2 ^ k) k, bit_power_same k)

pub bit_with_other : (x j k : ℕ) → (j ≡ k → ⊥) → bit (bit_or x (2 ^ k)) j ≡ bit x j
bit_with_other x j k n = omega (arith, bit_or_lem x (2 ^ k) j, bit_power_other j k n)

pub with_below : (n x k : ℕ) → x < 2 ^ n → k < n → bit_or x (2 ^ k) < 2 ^ n
with_below n x k h l = or_lt n x (2 ^ k) h (pow-lt l)

-- x & (x - 1) is x without its lowest bit
pub record LowestBit (x k : ℕ) : Type 0 where
  pub in_it : bit x k ≡ 1
  pub rest : bit_and x (x - 1) + 2 ^ k ≡ x

lowest_odd : (x : ℕ) → x % 2 ≡ 1 → LowestBit x 0
lowest_odd x e =
    let h : (x - 1) / 2 ≡ x / 2 = omega arith in
    let l : (x - 1) % 2 ≡ 0 = omega arith in
    let s = ap (bit_and (x / 2)) h ∙ and_self (x / 2) in
    record { in_it = bit_zero x ∙ e; rest = omega (arith, and_step x (x - 1)) }

lowest_even : (x k : ℕ) → x % 2 ≡ 0 → 0 < x → LowestBit (x / 2) k → LowestBit x (suc k)
lowest_even x k e p w =
    let h : (x - 1) / 2 ≡ x / 2 - 1 = omega arith in
    let s = ap (bit_and (x / 2)) h in
    let t = w.rest in
    record { in_it = bit_suc x k ∙ w.in_it; rest = omega (arith, and_step x (x - 1), two-pow-succ k) }

pub has_lowest : (x : ℕ) → 0 < x → (k : ℕ) × LowestBit x k
has_lowest =
    bin_ind (λ (x : ℕ). 0 < x → (k : ℕ) × LowestBit x k) (λ h. absurd (omega arith))
    (λ x half h. at x h half (x % 2) refl (omega arith))
  where
    at : (x : ℕ) → 0 < x → (0 < x / 2 → (k : ℕ) × LowestBit (x / 2) k) → (d : ℕ) → x % 2 ≡ d → d < 2
        → (k : ℕ) × LowestBit x k
    at x h half zero e l = let w = half (omega arith) in (suc w.0, lowest_even x w.0 e h w.1)
    at x h half (suc zero) e l = (0, lowest_odd x e)
    at x h half (suc (suc d)) e l = absurd (omega arith)

pub rest_without : (x k : ℕ) → LowestBit x k → bit_and x (x - 1) ≡ without_of x k
rest_without x k w = let e = w.rest in omega (arith, without_some x k w.in_it)

-- bit k of the mask is 1 exactly if k is below m and passes the test
pub passes : (b : Bool) → (◌≡◌ {A = ℕ} (pick b 1 0) 1) ↔ T b
passes true = (λ e. tt, λ t. refl)
passes false = (λ e. absurd (omega arith), λ t. absurd t)

pub mask_bit : (m : ℕ) (f : ℕ → Bool) (k : ℕ) → (bit (set_below m f) k ≡ 1) ↔ ((k < m) × T (f k))
mask_bit m f k = (
  λ e. at e (dec_lt k m),
  λ h. set_below_bit m f k h.0 ∙ (passes (f k)).1 h.1,
)
  where
    at : bit (set_below m f) k ≡ 1 → Dec (k < m) → (k < m) × T (f k)
    at e (yes l) = (l, (passes (f k)).0 (sym (set_below_bit m f k l) ∙ e))
    at e (no n) = absurd (omega (arith, bit_past (set_below m f) m k (set_below_lt m f) (omega arith)))

-- words that are all 0
pub word_blank : (m i : ℕ) → word (replicate m 0) i ≡ 0
word_blank zero i = refl
word_blank (suc m) zero = refl
word_blank (suc m) (suc i) = word_blank m i
