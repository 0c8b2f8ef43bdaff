-- Where a chain of tests finds no ground (its number is 0), each test says so.
use Prim.Native.Nat.{ℕ, ◌≤◌, ◌<◌}
use mathlib.Core.Path.{◌≡◌, refl, sym, ◌∙◌}
use mathlib.Core.Logic.{◌⊎◌, inl, inr}
use mathlib.Core.Bool.{Bool, true, false}
use native.Mathlib.Omega.{arith}
use native.Mathlib.Decide.{dec_le, dec_lt, ℕ_discrete}
use Rattle.columns.specs.Test.{if_eq, if_lt, if_le, pick}
use Rattle.columns.proofs.Test.{if_eq_yes, if_eq_no, if_lt_yes, if_lt_no, if_le_yes, if_le_no}

-- a test whose first answer is a ground
pub no_le : (a b x y : ℕ) → (x ≡ 0 → ⊥) → if_le a b x y ≡ 0 → (b < a) × (y ≡ 0)
no_le a b x y n h = go (dec_le a b)
  where
    go : Dec (a ≤ b) → (b < a) × (y ≡ 0)
    go (yes l) = absurd (n (sym (if_le_yes y l) ∙ h))
    go (no m) = let l : b < a = omega arith in (l, sym (if_le_no x l) ∙ h)

pub no_lt : (a b x y : ℕ) → (x ≡ 0 → ⊥) → if_lt a b x y ≡ 0 → (b ≤ a) × (y ≡ 0)
no_lt a b x y n h = go (dec_lt a b)
  where
    go : Dec (a < b) → (b ≤ a) × (y ≡ 0)
    go (yes l) = absurd (n (sym (if_lt_yes y l) ∙ h))
    go (no m) = let l : b ≤ a = omega arith in (l, sym (if_lt_no x l) ∙ h)

-- a test of equality whose second answer is a ground
pub no_ne : (a b x y : ℕ) → (y ≡ 0 → ⊥) → if_eq a b x y ≡ 0 → (a ≡ b) × (x ≡ 0)
no_ne a b x y n h = go (ℕ_discrete a b)
  where
    go : Dec (a ≡ b) → (a ≡ b) × (x ≡ 0)
    go (yes e) = (e, sym (if_eq_yes y e) ∙ h)
    go (no m) = absurd (n (sym (if_eq_no x m) ∙ h))

-- a test of equality whose first answer is none
pub eq_or : (a b y : ℕ) → if_eq a b 0 y ≡ 0 → (a ≡ b) ⊎ (y ≡ 0)
eq_or a b y h = go (ℕ_discrete a b)
  where
    go : Dec (a ≡ b) → (a ≡ b) ⊎ (y ≡ 0)
    go (yes e) = inl e
    go (no m) = inr (sym (if_eq_no 0 m) ∙ h)

-- a Bool that is true where there is no ground
pub picked : (t : Bool) (y : ℕ) → (y ≡ 0 → ⊥) → pick t 0 y ≡ 0 → t ≡ true
picked true y n h = refl
picked false y n h = absurd (n h)
