-- Laws of a set's size: how many bits of its number are 1.
use Prim.Native.Nat.{ℕ, zero, suc, ◌+◌, ◌*◌, ◌/◌, ◌%◌, ◌^◌, ◌≤◌, ◌<◌}
use mathlib.Core.Path.{◌≡◌, refl, sym, ap, ◌∙◌}
use native.Mathlib.Nat.{le_refl, zero-add, one-mul, add_comm, two-pow-succ}
use native.Mathlib.Numerals.{one-add}
use native.Mathlib.Omega.{arith}
use lib.Arith.{bin_ind}
use lib.Pow.{pow_pos}
use lib.Count.{ones, ones_in, ones_step, ones_cat}
use Rattle.columns.specs.Set.{size_of}

-- no number below 2^s - 1 has s bits
least_step : (b h n : ℕ) → b ≡ n % 2 → 2 ^ h ≤ suc (n / 2) → 2 ^ (b + h) ≤ suc n
least_step zero h n e l = rw zero-add (omega arith)
least_step (suc zero) h n e l = rw one-add (omega (arith, two-pow-succ h))
least_step (suc (suc b)) h n e l = absurd (omega arith)

pub least_of_size : (x : ℕ) → 2 ^ size_of x ≤ suc x
unfolding ones
least_of_size x =
    bin_ind (λ (n : ℕ). 2 ^ size_of n ≤ suc n) (le_refl 1)
    (λ n ih. rw (ones_step n) (least_step (n % 2) (size_of (n / 2)) n refl ih)) x

-- a power of two is positive
pub power_pos : (p k : ℕ) → p ≡ 2 ^ k → 1 ≤ p
power_pos p k e = omega (arith, pow_pos k)

-- only 0 has no bit
pub size_pos : (x : ℕ) → 0 < x → 0 < size_of x
size_pos x =
    bin_ind (λ (n : ℕ). 0 < n → 0 < size_of n) (λ h. absurd (omega arith))
    (λ n ih h. step n ih h (n / 2) refl) x
  where
    step : (n : ℕ) → (0 < n / 2 → 0 < size_of (n / 2)) → 0 < n → (m : ℕ) → n / 2 ≡ m → 0 < size_of n
    step n ih h zero e = omega (arith, ones_step n)
    step n ih h (suc m) e = let i = ih (omega arith) in omega (arith, ones_step n)

-- a bit above all others is one more
pub size_top : (n x : ℕ) → x < 2 ^ n → size_of (x + 2 ^ n) ≡ suc (size_of x)
unfolding ones ones_in
size_top n x h =
    ap size_of (add_comm x (2 ^ n) ∙ ap (λ (p : ℕ). p + x) (sym (one-mul (2 ^ n))))
    ∙ ones_cat n 1 x h ∙ one-add (size_of x)

-- a bit below all others is one more
pub size_odd : (q : ℕ) → size_of (2 * q + 1) ≡ suc (size_of q)
size_odd q =
    let e : (2 * q + 1) / 2 ≡ q = omega arith in
    let o : (2 * q + 1) % 2 ≡ 1 = omega arith in
    ones_step (2 * q + 1) ∙ rw (e, o) (one-add (size_of q))
