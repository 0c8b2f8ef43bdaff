-- The next set in listing order, as arithmetic. A number that is not 0 is, from above, some bits, a 0, a run of ones
-- and a run of zeros. The next number of its size has the run's highest one moved up into the 0, and its other ones
-- at the end.
use Rattle.std.specs.Prelude.{Some, None}
use Prim.Native.Nat.{ℕ, zero, suc, ◌+◌, ◌-◌, ◌*◌, ◌/◌, ◌%◌, ◌^◌, ◌≤◌, ◌<◌}
use mathlib.Core.Path.{◌≡◌, refl, sym, ap, ◌∙◌, subst}
use mathlib.Core.Logic.{inl, inr, ⊎_elim}
use native.Mathlib.Nat.{add-zero, suc-mul, mul_assoc, pow-suc, two-pow-succ, mul-le-mul_left, mul-le-mul_right}
use native.Mathlib.Nat.{lt_of_mul-lt-mul_right}
use native.Mathlib.Numerals.{add-one}
use native.Mathlib.Omega.{arith}
use lib.Count.{ones, count_trailing_zeros, under, ones_step, ones_cat, ones-ones, ones-le}
use lib.Pow.{pow_pos, pow_mono, pow-add, ones_lt}
use Rattle.columns.specs.Bound.{column_bound}
use Rattle.columns.specs.Set.{size_of, set_of}
use Rattle.columns.specs.Order.{Precedes, in_order, next_of}
use Rattle.columns.proofs.Test.{if_le_yes, if_le_no}
use Rattle.columns.proofs.Size.{least_of_size, size_pos, size_odd}
use Rattle.columns.proofs.Lists.{after_absent, after_last, after_next}
use Rattle.columns.proofs.Order.{mem_in_order, in_order_mem, ordered_in_order}

-- zeros at the end change no size
size_shifted : (k a : ℕ) → size_of (a * 2 ^ k) ≡ size_of a
unfolding ones
size_shifted k a = ap size_of (sym (add-zero (a * 2 ^ k))) ∙ ones_cat k a 0 (pow_pos k) ∙ add-zero (size_of a)

-- a number is an odd number with its trailing zeros
trailing_parts : (k x : ℕ) → 0 < x → x < 2 ^ k → (q : ℕ) × (x ≡ (2 * q + 1) * 2 ^ count_trailing_zeros k x)
unfolding count_trailing_zeros
trailing_parts zero x p h = absurd (omega arith)
trailing_parts (suc k) x p h =
    go (x % 2) refl (λ (l : 0 < x / 2). trailing_parts k (x / 2) l (omega (arith, two-pow-succ k)))
  where
    twice : (c s : ℕ) → c * 2 ^ suc s ≡ c * 2 ^ s * 2
    twice c s = ap (λ (i : ℕ). c * i) (pow-suc 2 s) ∙ sym (mul_assoc c (2 ^ s) 2)

    go : (b : ℕ) → x % 2 ≡ b
        → (0 < x / 2 → (q : ℕ) × (x / 2 ≡ (2 * q + 1) * 2 ^ count_trailing_zeros k (x / 2)))
        → (q : ℕ) × (x ≡ (2 * q + 1) * 2 ^ under b (count_trailing_zeros k (x / 2)))
    go zero e ih =
        let w = ih (omega arith) in
        (w.0, omega (arith, w.1, twice (2 * w.0 + 1) (count_trailing_zeros k (x / 2))))
    go (suc zero) e ih = (x / 2, omega arith)
    go (suc (suc b)) e ih = absurd (omega arith)

-- a multiple of 2^j below 2^n has room for 2^j more
room : (c j n : ℕ) → 0 < c → c * 2 ^ j < 2 ^ n → c * 2 ^ j + 2 ^ j ≤ 2 ^ n
room c j n p h = go (j - n) refl
  where
    go : (d : ℕ) → j - n ≡ d → c * 2 ^ j + 2 ^ j ≤ 2 ^ n
    go zero e =
        let s : 2 ^ (n - j) * 2 ^ j ≡ 2 ^ n = sym (pow-add 2 (n - j) j) ∙ ap (λ (i : ℕ). 2 ^ i) (omega arith) in
        let l : c < 2 ^ (n - j) = lt_of_mul-lt-mul_right (2 ^ j) (omega arith) in
        omega (arith, mul-le-mul_right (2 ^ j) l, suc-mul c (2 ^ j))
    go (suc d) e =
        let l : 2 ^ n ≤ 2 ^ j = pow_mono (omega arith) in
        let o : 1 * 2 ^ j ≤ c * 2 ^ j = mul-le-mul_right (2 ^ j) p in
        absurd (omega arith)

module _ (x t q a m : ℕ) (ex : x ≡ (2 * q + 1) * 2 ^ t) (eq : suc q ≡ (2 * a + 1) * 2 ^ m) where
  moved : x + 2 ^ t ≡ (2 * a + 1) * 2 ^ (suc m + t)
  moved =
      let s : suc (2 * q + 1) ≡ suc q * 2 = omega arith in
      ap (λ (i : ℕ). i + 2 ^ t) ex ∙ sym (suc-mul (2 * q + 1) (2 ^ t)) ∙ ap (λ (i : ℕ). i * 2 ^ t) s
      ∙ ap (λ (i : ℕ). i * 2 * 2 ^ t) eq
      ∙ ap (λ (i : ℕ). i * 2 ^ t) (mul_assoc (2 * a + 1) (2 ^ m) 2)
      ∙ mul_assoc (2 * a + 1) (2 ^ m * 2) (2 ^ t)
      ∙ ap (λ (i : ℕ). (2 * a + 1) * (i * 2 ^ t)) (sym (pow-suc 2 m))
      ∙ ap (λ (i : ℕ). (2 * a + 1) * i) (sym (pow-add 2 (suc m) t))

  size_double : (b : ℕ) → size_of (2 * b) ≡ size_of b
  size_double b =
      let e : 2 * b / 2 ≡ b = omega arith in
      let o : 2 * b % 2 ≡ 0 = omega arith in
      ones_step (2 * b) ∙ rw (e, o) (omega arith)

  size_whole : size_of x ≡ suc (size_of a + m)
  size_whole =
      let s : (2 * a + 1) * 2 ^ m ≡ 2 * a * 2 ^ m + 2 ^ m =
      ap (λ (i : ℕ). i * 2 ^ m) (add-one (2 * a)) ∙ suc-mul (2 * a) (2 ^ m) in
      let e : q ≡ 2 * a * 2 ^ m + (2 ^ m - 1) = omega (arith, pow_pos m) in
      let c : size_of q ≡ size_of a + m =
      ap size_of e ∙ ones_cat m (2 * a) (2 ^ m - 1) (ones_lt m) ∙ rw (ones-ones m, size_double a) in
      ap size_of ex ∙ size_shifted t (2 * q + 1) ∙ size_odd q ∙ ap suc c

  size_moved : size_of (x + 2 ^ t) ≡ suc (size_of a)
  size_moved = ap size_of moved ∙ size_shifted (suc m + t) (2 * a + 1) ∙ size_odd a

  -- with a number below the moved run
  size_with : (w : ℕ) → w < 2 ^ (suc m + t) → size_of (x + 2 ^ t + w) ≡ suc (size_of a) + size_of w
  size_with w h =
      ap (λ (i : ℕ). size_of (i + w)) moved ∙ ones_cat (suc m + t) (2 * a + 1) w h
      ∙ ap (λ (i : ℕ). i + size_of w) (size_odd a)

  low_lt : 2 ^ m ≤ 2 ^ (suc m + t)
  low_lt = pow_mono (omega arith)

  size_next : size_of (x + 2 ^ t + (2 ^ m - 1)) ≡ size_of x
  size_next =
      let h = size_with (2 ^ m - 1) (omega (arith, low_lt, pow_pos m)) in
      omega (arith, size_whole, ones-ones m)

  run_length : size_of x - size_of (x + 2 ^ t) ≡ m
  run_length = omega (arith, size_whole, size_moved)

  -- no number between has the size
  above_next : (z : ℕ) → x < z → size_of z ≡ size_of x → x + 2 ^ t + (2 ^ m - 1) ≤ z
  above_next z h e = go (suc z - (x + 2 ^ t)) refl
    where
      go : (d : ℕ) → suc z - (x + 2 ^ t) ≡ d → x + 2 ^ t + (2 ^ m - 1) ≤ z
      go zero g =
          let w : (2 * q + 1) * 2 ^ t + (z - x) ≡ z = omega arith in
          let s : size_of z ≡ size_of (2 * q + 1) + size_of (z - x) =
          ap size_of (sym w) ∙ ones_cat t (2 * q + 1) (z - x) (omega arith) in
          let o : size_of x ≡ size_of (2 * q + 1) = ap size_of ex ∙ size_shifted t (2 * q + 1) in
          absurd (omega (arith, size_pos (z - x) (omega arith)))
      go (suc d) g = more (suc (z - (x + 2 ^ t)) - 2 ^ m) refl
        where
          more : (f : ℕ) → suc (z - (x + 2 ^ t)) - 2 ^ m ≡ f → x + 2 ^ t + (2 ^ m - 1) ≤ z
          more zero k =
              let w : x + 2 ^ t + (z - (x + 2 ^ t)) ≡ z = omega arith in
              let s : size_of z ≡ suc (size_of a) + size_of (z - (x + 2 ^ t)) =
              ap size_of (sym w) ∙ size_with (z - (x + 2 ^ t)) (omega (arith, low_lt)) in
              let c : size_of (z - (x + 2 ^ t)) ≡ m = omega (arith, size_whole) in
              let l : 2 ^ m ≤ suc (z - (x + 2 ^ t)) =
              subst (λ (i : ℕ). 2 ^ i ≤ suc (z - (x + 2 ^ t))) c (least_of_size (z - (x + 2 ^ t))) in
              omega arith
          more (suc f) k = omega arith

  room_next : (n : ℕ) → x + 2 ^ t < 2 ^ n → x + 2 ^ t + 2 ^ m ≤ 2 ^ n
  room_next n h = omega (arith, moved, room (2 * a + 1) (suc m + t) n (omega arith) (omega (arith, moved)), low_lt)

-- what is known of a number that is not 0, its lowest bit added to it, and what of the run of ones comes to the end
pub record Moved (x r : ℕ) : Type 0 where
  pub less : size_of r ≤ size_of x
  pub same : size_of (r + (2 ^ (size_of x - size_of r) - 1)) ≡ size_of x
  pub least : (z : ℕ) → x < z → size_of z ≡ size_of x → r + (2 ^ (size_of x - size_of r) - 1) ≤ z
  pub fits : (n : ℕ) → r < 2 ^ n → r + 2 ^ (size_of x - size_of r) ≤ 2 ^ n

moved_from : (x t q a m : ℕ) → x ≡ (2 * q + 1) * 2 ^ t → suc q ≡ (2 * a + 1) * 2 ^ m → Moved x (x + 2 ^ t)
moved_from x t q a m ex eq =
    let e = run_length x t q a m ex eq in record {
      less = omega (arith, size_whole x t q a m ex eq, size_moved x t q a m ex eq);
      same = subst (λ (i : ℕ). size_of (x + 2 ^ t + (2 ^ i - 1)) ≡ size_of x) (sym e) (size_next x t q a m ex eq);
      least =
          subst (λ (i : ℕ). (z : ℕ) → x < z → size_of z ≡ size_of x → x + 2 ^ t + (2 ^ i - 1) ≤ z) (sym e)
          (above_next x t q a m ex eq);
      fits =
          subst (λ (i : ℕ). (n : ℕ) → x + 2 ^ t < 2 ^ n → x + 2 ^ t + 2 ^ i ≤ 2 ^ n) (sym e)
          (room_next x t q a m ex eq);
    }

pub moved_of : (k x : ℕ) → 0 < x → x < 2 ^ k → Moved x (x + 2 ^ count_trailing_zeros k x)
moved_of k x p h =
    let v = trailing_parts k x p h in
    let l : (2 * v.0 + 1) * 1 ≤ (2 * v.0 + 1) * 2 ^ count_trailing_zeros k x =
    mul-le-mul_left (2 * v.0 + 1) (pow_pos (count_trailing_zeros k x)) in
    let w = trailing_parts k (suc v.0) (omega arith) (omega (arith, v.1)) in
    moved_from x (count_trailing_zeros k x) v.0 w.0 (count_trailing_zeros k (suc v.0)) v.1 w.1

pub moved_by : (k x b : ℕ) → 0 < x → x < 2 ^ k → b ≡ 2 ^ count_trailing_zeros k x → Moved x (x + b)
moved_by k x b p h e = subst (λ (i : ℕ). Moved x (x + i)) (sym e) (moved_of k x p h)

-- the lowest bit of a number is at most the number
pub lowest_le : (k x : ℕ) → 0 < x → x < 2 ^ k → 2 ^ count_trailing_zeros k x ≤ x
lowest_le k x p h =
    let v = trailing_parts k x p h in
    let l : 1 * 2 ^ count_trailing_zeros k x ≤ (2 * v.0 + 1) * 2 ^ count_trailing_zeros k x =
    mul-le-mul_right (2 ^ count_trailing_zeros k x) (omega arith) in
    omega (arith, v.1)

pub lowest_lt : (k x : ℕ) → 0 < x → x < 2 ^ k → count_trailing_zeros k x < k
lowest_lt k x p h = go (k - count_trailing_zeros k x) refl
  where
    go : (d : ℕ) → k - count_trailing_zeros k x ≡ d → count_trailing_zeros k x < k
    go zero e =
        let l : 2 ^ k ≤ 2 ^ count_trailing_zeros k x = pow_mono (omega arith) in
        absurd (omega (arith, lowest_le k x p h))
    go (suc d) e = omega arith

-- no set of n columns has x's size and a greater number
abbrev pub LastOfSize : ℕ → ℕ → Type 0
LastOfSize n x = (z : ℕ) → z < 2 ^ n → x < z → size_of z ≡ size_of x → ⊥

pub last_zero : (n x : ℕ) → x ≤ 0 → LastOfSize n x
unfolding ones
last_zero n x e z h l s =
    let x0 : x ≡ 0 = omega arith in
    let s0 : size_of x ≡ 0 = ap size_of x0 in
    omega (arith, size_pos z (omega arith))

pub last_moved : (n x r : ℕ) → Moved x r → 2 ^ n ≤ r → LastOfSize n x
last_moved n x r w h z l g s = omega (arith, w.least z g s)

-- the next set, case by case
pub next_over : (n x : ℕ) → column_bound < n → next_of n x ≡ None
unfolding next_of
next_over n x b = if_le_no _ b

pub next_absent : (n x : ℕ) → n ≤ column_bound → 2 ^ n ≤ x → next_of n x ≡ None
unfolding next_of
next_absent n x b h = if_le_yes None b ∙ after_absent x (in_order n) (λ m. omega (arith, mem_in_order n x m))

pub next_of_size : (n x r : ℕ) → n ≤ column_bound → x < r → Moved x r → r < 2 ^ n
    → next_of n x ≡ Some (set_of (r + (2 ^ (size_of x - size_of r) - 1)))
unfolding next_of
next_of_size n x r b g w h =
    let y = r + (2 ^ (size_of x - size_of r) - 1) in
    let u : y < 2 ^ n = omega (arith, w.fits n h, pow_pos (size_of x - size_of r)) in
    if_le_yes None b
    ∙ after_next (in_order n) x y (ordered_in_order n) (in_order_mem n x (omega arith)) (in_order_mem n y u)
    (inr (sym w.same, omega arith))
    (λ z m. between z)
  where
    between : (z : ℕ) → Precedes x z → Precedes z (r + (2 ^ (size_of x - size_of r) - 1)) → ⊥
    between z (inl p) (inl o) = omega (arith, w.same)
    between z (inl p) (inr o) = omega (arith, w.same)
    between z (inr p) (inl o) = omega (arith, w.same)
    between z (inr p) (inr o) = omega (arith, w.least z p.1 (sym p.0))

pub next_of_next_size : (n x : ℕ) → n ≤ column_bound → x < 2 ^ n → LastOfSize n x → size_of x < n
    → next_of n x ≡ Some (set_of (2 ^ suc (size_of x) - 1))
unfolding next_of
next_of_next_size n x b h last l =
    let y = 2 ^ suc (size_of x) - 1 in
    let s : size_of y ≡ suc (size_of x) = ones-ones (suc (size_of x)) in
    if_le_yes None b
    ∙ after_next (in_order n) x y (ordered_in_order n) (in_order_mem n x h)
    (in_order_mem n y (omega (arith, pow_mono l, pow_pos (suc (size_of x))))) (inl (omega arith))
    (λ z m. between z (mem_in_order n z m) s)
  where
    least : (z : ℕ) → size_of z ≡ suc (size_of x) → 2 ^ suc (size_of x) ≤ suc z
    least z e = subst (λ (i : ℕ). 2 ^ i ≤ suc z) e (least_of_size z)

    between : (z : ℕ) → z < 2 ^ n → size_of (2 ^ suc (size_of x) - 1) ≡ suc (size_of x)
        → Precedes x z → Precedes z (2 ^ suc (size_of x) - 1) → ⊥
    between z u s (inl p) (inl o) = omega arith
    between z u s (inl p) (inr o) = omega (arith, least z (o.0 ∙ s))
    between z u s (inr p) o = last z u p.1 (sym p.0)

pub next_of_last : (n x : ℕ) → n ≤ column_bound → x < 2 ^ n → LastOfSize n x → n ≤ size_of x
    → next_of n x ≡ None
unfolding next_of
next_of_last n x b h last l =
    if_le_yes None b
    ∙ after_last (in_order n) x (ordered_in_order n) (in_order_mem n x h)
    (λ z m p.
    ⊎_elim (λ q. omega (arith, ones-le n z (mem_in_order n z m)))
    (λ q. last z (mem_in_order n z m) q.1 (sym q.0)) p)
