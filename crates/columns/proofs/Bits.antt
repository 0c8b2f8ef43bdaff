-- Laws of the bits of a set's number: a set without a column, subsets, and that its bits make the number.
use Prim.Native.Nat.{ℕ, zero, suc, ◌+◌, ◌-◌, ◌*◌, ◌/◌, ◌%◌, ◌^◌, ◌≤◌, ◌<◌, min}
use mathlib.Core.Path.{◌≡◌, refl, sym, ap, ap₂, ◌∙◌}
use mathlib.Core.Bool.{Bool, true, false, ◌&&◌}
use native.Mathlib.Nat.{le_trans, lt_of_le_of_lt, sub-le, sub-zero, zero-mul, one-mul, add-mul, mul-le-mul_right}
use native.Mathlib.Nat.{mod-le, mod-lt, div-one, div-mul-le_self, two-pow-succ}
use native.Mathlib.Nat.{div-eq_of_lt}
use native.Mathlib.Numerals.{one-add}
use native.Mathlib.Omega.{arith}
use borrow.Author.Tests.{ltb-true, lt-ltb, eqb-true, eq-eqb}
use lib.Dec.{ltb, eqb}
use lib.Bits.{bit_and, and_step, and_shr, and_le_l}
use lib.Pow.{pow_pos, pow_mono, shr-shr, split, high, low, field, mod-mod-pow, ones_split, ones_lt}
use Rattle.columns.specs.Bound.{column_bound}
use Rattle.columns.specs.Set.{bit, member_of, without_of, within_of}

-- bit 0, the bits above a bit, and the bits below it
pub bit_zero : (x : ℕ) → bit x 0 ≡ x % 2
bit_zero x = ap (λ (y : ℕ). y % 2) (div-one x)

pub bit_above : (x k d : ℕ) → bit x (k + d) ≡ bit (x / 2 ^ k) d
bit_above x k d = ap (λ (y : ℕ). y % 2) (sym (shr-shr x k d))

pub bit_suc : (x k : ℕ) → bit x (suc k) ≡ bit (x / 2) k
bit_suc x k = ap (λ (i : ℕ). bit x i) (sym (one-add k)) ∙ bit_above x 1 k

pub bit_below : (x j k : ℕ) → j < k → bit (x % 2 ^ k) j ≡ bit x j
bit_below x j k h =
    let e : k ≡ (k - suc j) + 1 + j = omega arith in
    ap (λ (i : ℕ). x % 2 ^ i / 2 ^ j % 2) e
    ∙ ap (λ (y : ℕ). y % 2) (field x ((k - suc j) + 1) j)
    ∙ mod-mod-pow (x / 2 ^ j) (k - suc j) 1

-- a number has no bit at or above its length
pub bit_past : (x n k : ℕ) → x < 2 ^ n → n ≤ k → bit x k ≡ 0
bit_past x n k h l = ap (λ (y : ℕ). y % 2) (div-eq_of_lt (omega (arith, pow_mono l)))

pub bit_one : (x k : ℕ) → (bit x k ≡ 0 → ⊥) → bit x k ≡ 1
bit_one x k n = omega (arith, mod-lt (x / 2 ^ k) two_pos)
  where
    two_pos : 0 < 2
    two_pos = omega arith

pub bit_le : (x k : ℕ) → bit x k * 2 ^ k ≤ x
bit_le x k = le_trans (mul-le-mul_right (2 ^ k) (mod-le (x / 2 ^ k) 2)) (div-mul-le_self x (2 ^ k))

-- numbers of n bits that have the same bits are the same
pub bits_same : (n x y : ℕ) → x < 2 ^ n → y < 2 ^ n → ((k : ℕ) → k < n → bit x k ≡ bit y k) → x ≡ y
bits_same zero x y hx hy e = omega arith
bits_same (suc n) x y hx hy e =
    let p = two-pow-succ n in
    let h = bits_same n (x / 2) (y / 2) (omega arith) (omega arith)
    (λ k l. sym (bit_suc x k) ∙ e (suc k) (omega arith) ∙ bit_suc y k) in
    let z = sym (bit_zero x) ∙ e 0 (omega arith) ∙ bit_zero y in
    omega arith

-- the set without column k: what stands above and below bit k stays
parts : (q P l x b h : ℕ) → q * P + l ≡ x → q ≡ h + b → x - b * P ≡ h * P + l
parts q P l x b h e f =
    let g : q * P ≡ h * P + b * P = ap (λ (i : ℕ). i * P) f ∙ add-mul h b P in
    omega arith

without_parts : (x k : ℕ) → without_of x k ≡ x / 2 ^ k / 2 * 2 * 2 ^ k + x % 2 ^ k
unfolding without_of
without_parts x k =
    parts (x / 2 ^ k) (2 ^ k) (x % 2 ^ k) x (bit x k) (x / 2 ^ k / 2 * 2) (split x k) (halved (x / 2 ^ k))
  where
    halved : (q : ℕ) → q ≡ q / 2 * 2 + q % 2
    halved q = omega arith

without_high : (x k : ℕ) → without_of x k / 2 ^ k ≡ x / 2 ^ k / 2 * 2
without_high x k =
    ap (λ (y : ℕ). y / 2 ^ k) (without_parts x k) ∙ high (x / 2 ^ k / 2 * 2) k (mod-lt x (pow_pos k))

without_low : (x k : ℕ) → without_of x k % 2 ^ k ≡ x % 2 ^ k
without_low x k = ap (λ (y : ℕ). y % 2 ^ k) (without_parts x k) ∙ low (x / 2 ^ k / 2 * 2) k (mod-lt x (pow_pos k))

doubled_even : (h : ℕ) → h * 2 % 2 ≡ 0
doubled_even h = omega arith

doubled_half : (h : ℕ) → h * 2 / 2 ≡ h
doubled_half h = omega arith

pub bit_without_same : (x k : ℕ) → bit (without_of x k) k ≡ 0
bit_without_same x k = ap (λ (y : ℕ). y % 2) (without_high x k) ∙ doubled_even (x / 2 ^ k / 2)

pub bit_without_below : (x j k : ℕ) → j < k → bit (without_of x k) j ≡ bit x j
bit_without_below x j k h =
    sym (bit_below (without_of x k) j k h) ∙ ap (λ (y : ℕ). bit y j) (without_low x k) ∙ bit_below x j k h

pub bit_without_above : (x j k : ℕ) → k < j → bit (without_of x k) j ≡ bit x j
bit_without_above x j k h =
    let e : j ≡ k + suc (j - suc k) = omega arith in
    ap (bit (without_of x k)) e ∙ above (without_of x k)
    ∙ ap (λ (y : ℕ). bit y (j - suc k))
    (ap (λ (y : ℕ). y / 2) (without_high x k) ∙ doubled_half (x / 2 ^ k / 2))
    ∙ sym (above x) ∙ ap (bit x) (sym e)
  where
    above : (y : ℕ) → bit y (k + suc (j - suc k)) ≡ bit (y / 2 ^ k / 2) (j - suc k)
    above y = bit_above y k (suc (j - suc k)) ∙ bit_suc (y / 2 ^ k) (j - suc k)

pub bit_without_other : (x j k : ℕ) → (j ≡ k → ⊥) → bit (without_of x k) j ≡ bit x j
bit_without_other x j k n = go (j - k) refl
  where
    go : (d : ℕ) → j - k ≡ d → bit (without_of x k) j ≡ bit x j
    go zero e = bit_without_below x j k (omega arith)
    go (suc d) e = bit_without_above x j k (omega arith)

pub without_le : (x k : ℕ) → without_of x k ≤ x
unfolding without_of
without_le x k = sub-le x (bit x k * 2 ^ k)

pub without_none : (x k : ℕ) → bit x k ≡ 0 → without_of x k ≡ x
unfolding without_of
without_none x k e = ap (λ (b : ℕ). x - b * 2 ^ k) e ∙ ap (λ (p : ℕ). x - p) (zero-mul (2 ^ k)) ∙ sub-zero x

pub without_some : (x k : ℕ) → bit x k ≡ 1 → without_of x k ≡ x - 2 ^ k
unfolding without_of
without_some x k e = ap (λ (b : ℕ). x - b * 2 ^ k) e ∙ ap (λ (p : ℕ). x - p) (one-mul (2 ^ k))

pub bit_power_le : (x k : ℕ) → bit x k ≡ 1 → 2 ^ k ≤ x
bit_power_le x k e =
    let p : bit x k * 2 ^ k ≡ 2 ^ k = ap (λ (b : ℕ). b * 2 ^ k) e ∙ one-mul (2 ^ k) in
    omega (arith, bit_le x k)

pub without_lt : (x k : ℕ) → bit x k ≡ 1 → without_of x k < x
without_lt x k e = omega (arith, without_some x k e, bit_power_le x k e, pow_pos k)

pub without_below : (n x k : ℕ) → x < 2 ^ n → without_of x k < 2 ^ n
without_below n x k h = lt_of_le_of_lt (without_le x k) h

-- the full set has every column
pub bit_full : (n k : ℕ) → k < n → bit (2 ^ n - 1) k ≡ 1
bit_full n k h =
    let d = n - suc k in
    let e : n ≡ suc d + k = omega arith in
    let o : (2 ^ suc d - 1) % 2 ≡ 1 = odd_full d in
    ap (λ (i : ℕ). bit (2 ^ i - 1) k) e
    ∙ ap (λ (y : ℕ). y / 2 ^ k % 2) (ones_split (suc d) k)
    ∙ ap (λ (y : ℕ). y % 2) (high (2 ^ suc d - 1) k (ones_lt k)) ∙ o
  where
    odd_full : (d : ℕ) → (2 ^ suc d - 1) % 2 ≡ 1
    odd_full d = odd_less_one (2 ^ suc d) (2 ^ d) (two-pow-succ d) (pow_pos d)
      where
        odd_less_one : (p q : ℕ) → p ≡ q + q → 0 < q → (p - 1) % 2 ≡ 1
        odd_less_one p q e l = omega arith

-- `member_of` says that the column is below the bound and its bit is 1
pub member_bit : (x k : ℕ) → member_of x k ≡ true → (k < column_bound) × (bit x k ≡ 1)
unfolding member_of
member_bit x k t = go (ltb k column_bound) (eqb (bit x k) 1) refl refl t
  where
    go : (a b : Bool) → ltb k column_bound ≡ a → eqb (bit x k) 1 ≡ b → a && b ≡ true
        → (k < column_bound) × (bit x k ≡ 1)
    go true true p q e = (ltb-true k column_bound p, eqb-true (bit x k) 1 q)
    go true false p q e = let z : ◌≡◌ {A = ℕ} 0 1 = cc in absurd (omega arith)
    go false b p q e = let z : ◌≡◌ {A = ℕ} 0 1 = cc in absurd (omega arith)

pub bit_member : (x k : ℕ) → k < column_bound → bit x k ≡ 1 → member_of x k ≡ true
unfolding member_of
bit_member x k h e = ap₂ (λ (a b : Bool). a && b) (lt-ltb k column_bound h) (eq-eqb (bit x k) 1 e)

-- the members of both
pub low_bit : (v w m : ℕ) → v ≡ w * 2 + m → m < 2 → v % 2 ≡ m
low_bit v w m e h = omega arith

and_low : (a b : ℕ) → bit_and a b % 2 ≡ min (a % 2) (b % 2)
and_low a b = low_bit (bit_and a b) (bit_and (a / 2) (b / 2)) (min (a % 2) (b % 2)) (and_step a b) (omega arith)

pub bit_and_lem : (x y k : ℕ) → bit (bit_and x y) k ≡ min (bit x k) (bit y k)
bit_and_lem x y k = ap (λ (z : ℕ). z % 2) (and_shr x y k) ∙ and_low (x / 2 ^ k) (y / 2 ^ k)

pub below_own_power : (x : ℕ) → x < 2 ^ x
below_own_power zero = omega arith
below_own_power (suc x) = omega (arith, below_own_power x, two-pow-succ x)

-- `within_of` says that every member of x is a member of y, and says it whenever that is so
pub within_members : (x y : ℕ) → within_of x y ≡ true → (k : ℕ) → bit x k ≡ 1 → bit y k ≡ 1
unfolding within_of
within_members x y t k e =
    let s = eqb-true (bit_and x y) x t in
    let b = sym (ap (λ (z : ℕ). bit z k) s) ∙ bit_and_lem x y k in
    one_min (bit x k) (bit y k) b e (bit_lt y k)
  where
    one_min : (a b : ℕ) → a ≡ min a b → a ≡ 1 → b < 2 → b ≡ 1
    one_min a b p q l = omega arith

    bit_lt : (z i : ℕ) → bit z i < 2
    bit_lt z i = mod-lt (z / 2 ^ i) (omega arith)

pub members_within : (x y : ℕ) → ((k : ℕ) → bit x k ≡ 1 → bit y k ≡ 1) → within_of x y ≡ true
unfolding within_of
members_within x y f =
    eq-eqb (bit_and x y) x
    (bits_same x (bit_and x y) x (lt_of_le_of_lt (and_le_l x y) (below_own_power x)) (below_own_power x)
    (λ k l. bit_and_lem x y k ∙ keep (bit x k) (bit y k) (mod-lt (x / 2 ^ k) (omega arith)) (f k)))
  where
    keep : (a b : ℕ) → a < 2 → (a ≡ 1 → b ≡ 1) → min a b ≡ a
    keep zero b l g = omega arith
    keep (suc zero) b l g = let e = g refl in omega arith
    keep (suc (suc a)) b l g = absurd (omega arith)

-- the complement of s in m bits
half_complement : (p q s : ℕ) → p ≡ q + q → s < p → (p - 1 - s) / 2 ≡ q - 1 - s / 2
half_complement p q s e h = omega arith

low_complement : (p q s : ℕ) → p ≡ q + q → s < p → (p - 1 - s) % 2 ≡ 1 - s % 2
low_complement p q s e h = omega arith

pub bit_complement : (m s a : ℕ) → s < 2 ^ m → a < m → bit (2 ^ m - 1 - s) a ≡ 1 - bit s a
bit_complement zero s a h l = absurd (omega arith)
bit_complement (suc m) s zero h l =
    bit_zero (2 ^ suc m - 1 - s) ∙ low_complement (2 ^ suc m) (2 ^ m) s (two-pow-succ m) h
    ∙ ap (λ (b : ℕ). 1 - b) (sym (bit_zero s))
bit_complement (suc m) s (suc a) h l =
    let p = two-pow-succ m in
    bit_suc (2 ^ suc m - 1 - s) a
    ∙ ap (λ (z : ℕ). bit z a) (half_complement (2 ^ suc m) (2 ^ m) s p h)
    ∙ bit_complement m (s / 2) a (omega arith) (omega arith)
    ∙ ap (λ (b : ℕ). 1 - b) (sym (bit_suc s a))
