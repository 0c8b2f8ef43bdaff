-- Laws of the set of the numbers below n that pass a test: its bits, and how it is put together from two parts.
use Prim.Native.Nat.{ℕ, zero, suc, ◌+◌, ◌-◌, ◌*◌, ◌/◌, ◌%◌, ◌^◌, ◌≤◌, ◌<◌}
use mathlib.Core.Path.{◌≡◌, refl, sym, ap, ap₂, subst, ◌∙◌}
use mathlib.Core.Bool.{Bool, true, false}
use mathlib.Core.Logic.{◌⊎◌, inl, inr}
use native.Mathlib.Nat.{two-pow-succ, eq-or-lt_of_le, le_of_suc-le-suc, not-suc-le-zero, add-zero, add-suc, mul-add}
use native.Mathlib.Nat.{add_assoc}
use native.Mathlib.Omega.{arith}
use lib.Pow.{pow-add, high, low}
use Rattle.columns.specs.Set.{bit, set_below}
use Rattle.columns.specs.Test.{pick}
use Rattle.columns.proofs.Bits.{bit_below}

part_le : (t : Bool) (w : ℕ) → pick t w 0 ≤ w
part_le true w = omega arith
part_le false w = omega arith

pub set_below_lt : (n : ℕ) (f : ℕ → Bool) → set_below n f < 2 ^ n
unfolding set_below
set_below_lt zero f = omega arith
set_below_lt (suc n) f = omega (arith, set_below_lt n f, part_le (f n) (2 ^ n), two-pow-succ n)

-- the same tests, the same set
pub set_below_same : (n : ℕ) (f g : ℕ → Bool) → ((k : ℕ) → k < n → f k ≡ g k) → set_below n f ≡ set_below n g
unfolding set_below
set_below_same zero f g e = refl
set_below_same (suc n) f g e =
    ap₂ (λ (s : ℕ) (t : Bool). s + pick t (2 ^ n) 0) (set_below_same n f g (λ k l. e k (omega arith)))
    (e n (omega arith))

-- the first m numbers, and the n after them
scaled : (t : Bool) (m n : ℕ) → pick t (2 ^ (m + n)) 0 ≡ 2 ^ m * pick t (2 ^ n) 0
scaled true m n = pow-add 2 m n
scaled false m n = omega arith

pub set_below_split : (m n : ℕ) (f : ℕ → Bool) → set_below (m + n) f ≡ set_below m f + 2 ^ m * set_below n (λ k. f (m + k))
unfolding set_below
set_below_split m zero f = ap (λ (k : ℕ). set_below k f) (add-zero m) ∙ omega arith
set_below_split m (suc n) f =
    ap (λ (k : ℕ). set_below k f) (add-suc m n)
    ∙ ap₂ (λ (s t : ℕ). s + t) (set_below_split m n f) (scaled (f (m + n)) m n)
    ∙ add_assoc (set_below m f) (2 ^ m * set_below n (λ k. f (m + k))) (2 ^ m * pick (f (m + n)) (2 ^ n) 0)
    ∙ ap (λ (t : ℕ). set_below m f + t)
    (sym (mul-add (2 ^ m) (set_below n (λ k. f (m + k))) (pick (f (m + n)) (2 ^ n) 0)))

-- its bits
placed : (t : Bool) (s n : ℕ) → s + pick t (2 ^ n) 0 ≡ pick t 1 0 * 2 ^ n + s
placed true s n = omega arith
placed false s n = omega arith

bit_placed_same : (t : Bool) (s n : ℕ) → s < 2 ^ n → bit (s + pick t (2 ^ n) 0) n ≡ pick t 1 0
bit_placed_same t s n h =
    ap (λ (x : ℕ). x / 2 ^ n % 2) (placed t s n) ∙ ap (λ (x : ℕ). x % 2) (high (pick t 1 0) n h) ∙ odd t
  where
    odd : (t : Bool) → pick {A = ℕ} t 1 0 % 2 ≡ pick t 1 0
    odd true = refl
    odd false = refl

bit_placed_below : (t : Bool) (s n k : ℕ) → s < 2 ^ n → k < n → bit (s + pick t (2 ^ n) 0) k ≡ bit s k
bit_placed_below t s n k h l =
    ap (λ (x : ℕ). bit x k) (placed t s n) ∙ sym (bit_below (pick t 1 0 * 2 ^ n + s) k n l)
    ∙ ap (λ (x : ℕ). bit x k) (low (pick t 1 0) n h)

pub set_below_bit : (n : ℕ) (f : ℕ → Bool) (k : ℕ) → k < n → bit (set_below n f) k ≡ pick (f k) 1 0
unfolding set_below
set_below_bit zero f k h = absurd (not-suc-le-zero h)
set_below_bit (suc n) f k h = at (set_below_bit n f k) (eq-or-lt_of_le (le_of_suc-le-suc h))
  where
    at : (k < n → bit (set_below n f) k ≡ pick (f k) 1 0) → (k ≡ n) ⊎ (k < n)
        → bit (set_below n f + pick (f n) (2 ^ n) 0) k ≡ pick (f k) 1 0
    at below (inl e) =
        subst (λ (j : ℕ). bit (set_below n f + pick (f n) (2 ^ n) 0) j ≡ pick (f j) 1 0) (sym e)
        (bit_placed_same (f n) (set_below n f) n (set_below_lt n f))
    at below (inr l) = bit_placed_below (f n) (set_below n f) n k (set_below_lt n f) l ∙ below l
