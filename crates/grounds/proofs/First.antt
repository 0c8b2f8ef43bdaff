-- The first of a row of grounds, as a loop finds it.
use Prim.Native.Nat.{ℕ, zero, suc, ◌+◌, ◌-◌, ◌≤◌, ◌<◌}
use mathlib.Core.Path.{◌≡◌, refl, sym, ap, ◌∙◌}
use native.Mathlib.Nat.{sub-zero}
use native.Mathlib.Omega.{arith}
use Rattle.columns.proofs.Test.{if_eq_yes, if_eq_no, if_lt_yes, if_lt_no, if_le_yes, if_le_no}
use Rattle.model.specs.Refusal.{or_else, first_of}
use Rattle.model.proofs.Grounds.{is_this, is_next}

-- of n grounds, there is none below k
abbrev pub NoneBelow : ℕ → ℕ → (ℕ → ℕ) → Type 0
NoneBelow n k f = first_of n 0 f ≡ first_of (n - k) k f

first_step : (m k : ℕ) (f : ℕ → ℕ) → 0 < m → first_of m k f ≡ or_else (f k) (first_of (m - 1) (k + 1) f)
unfolding first_of
first_step zero k f h = omega arith
first_step (suc m) k f h =
    let p : m ≡ suc m - 1 = omega arith in
    let q : suc k ≡ k + 1 = omega arith in
    ap (λ (x : ℕ). or_else (f k) (first_of x (suc k) f)) p ∙ ap (λ (x : ℕ). or_else (f k) (first_of (suc m - 1) x f)) q

pub none_below_zero : (n : ℕ) (f : ℕ → ℕ) → NoneBelow n 0 f
none_below_zero n f = ap (λ (m : ℕ). first_of m 0 f) (sym (sub-zero n))

pub none_below_more : (n k : ℕ) (f : ℕ → ℕ) → NoneBelow n k f → k < n → f k ≡ 0 → NoneBelow n (k + 1) f
none_below_more n k f e h z =
    let p : n - k - 1 ≡ n - (k + 1) = omega arith in
    e ∙ first_step (n - k) k f (omega arith) ∙ sym (is_next (f k) z refl) ∙ ap (λ (m : ℕ). first_of m (k + 1) f) p

pub first_found : (n k : ℕ) (f : ℕ → ℕ) {r : ℕ} → NoneBelow n k f → k < n →
    r ≡ f k → (r ≡ 0 → ⊥) → r ≡ first_of n 0 f
first_found n k f e h p z =
    is_this (first_of (n - k - 1) (k + 1) f) p z ∙ sym (first_step (n - k) k f (omega arith)) ∙ sym e

pub none_found : (n k : ℕ) (f : ℕ → ℕ) → NoneBelow n k f → n ≤ k → 0 ≡ first_of n 0 f
unfolding first_of
none_found n k f e h =
    let p : 0 ≡ n - k = omega arith in
    ap (λ (m : ℕ). first_of m k f) p ∙ sym e

-- what a test comes to, by cases
pub ruleset tests = (if_eq_yes, if_eq_no, if_lt_yes, if_lt_no, if_le_yes, if_le_no)
