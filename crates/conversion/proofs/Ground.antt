-- Grounds of one number: a code that is none where one thing holds, and the number where another does. One by a test,
-- two tried in order, and one for each table.
use Prim.Native.Nat.{ℕ, zero, suc, ◌+◌, ◌≤◌, ◌<◌}
use mathlib.Core.Path.{◌≡◌, refl, subst, ◌∙◌}
use mathlib.Core.Logic.{◌⊎◌, inl, inr, ◌↔◌}
use native.Mathlib.Nat.{zero-add}
use native.Mathlib.Decide.{ℕ_discrete, dec_lt}
use native.Mathlib.Omega.{arith}
use Rattle.columns.specs.Test.{if_eq, if_lt}
use Rattle.columns.proofs.Test.{if_eq_yes, if_eq_no, if_lt_yes, if_lt_no}
use Rattle.model.specs.Refusal.{or_else, first_of}
use Rattle.model.proofs.Grounds.{or_else_next, or_else_first}

-- the code is 0, and P holds, or it is n, and Q does
abbrev pub Ground : Type 0 → Type 0 → ℕ → ℕ → Type 0
Ground P Q n code = (P × (code ≡ 0)) ⊎ (Q × (code ≡ n))

-- of two things that exclude each other
module _ {P Q : Type 0} {n code : ℕ} (some : 0 < n) (apart : P → Q → ⊥) where
  -- none exactly if the one, and n exactly if the other
  pub none_exactly : Ground P Q n code → (code ≡ 0) ↔ P
  none_exactly (inl h) = (λ e. h.0, λ p. h.1)
  none_exactly (inr h) = let e = h.1 in (λ z. absurd (omega arith), λ p. absurd (apart p h.0))

  pub own_exactly : Ground P Q n code → (code ≡ n) ↔ Q
  own_exactly (inl h) = let e = h.1 in (λ z. absurd (omega arith), λ q. absurd (apart h.0 q))
  own_exactly (inr h) = (λ e. h.0, λ q. h.1)

-- the same in other words
pub ground_as : {P Q R S : Type 0} {n code : ℕ} → (P → R) → (Q → S) → Ground P Q n code → Ground R S n code
ground_as f g (inl h) = inl (f h.0, h.1)
ground_as f g (inr h) = inr (g h.0, h.1)

-- by a test
pub ground_eq : (a b n : ℕ) → Ground (a ≡ b → ⊥) (a ≡ b) n (if_eq a b n 0)
ground_eq a b n = at (ℕ_discrete a b)
  where
    at : Dec (a ≡ b) → Ground (a ≡ b → ⊥) (a ≡ b) n (if_eq a b n 0)
    at (yes e) = inr (e, if_eq_yes 0 e)
    at (no m) = inl (m, if_eq_no n m)

pub ground_ne : (a b n : ℕ) → Ground (a ≡ b) (a ≡ b → ⊥) n (if_eq a b 0 n)
ground_ne a b n = at (ℕ_discrete a b)
  where
    at : Dec (a ≡ b) → Ground (a ≡ b) (a ≡ b → ⊥) n (if_eq a b 0 n)
    at (yes e) = inl (e, if_eq_yes n e)
    at (no m) = inr (m, if_eq_no 0 m)

pub ground_lt : (a b n : ℕ) → Ground (b ≤ a) (a < b) n (if_lt a b n 0)
ground_lt a b n = at (dec_lt a b)
  where
    at : Dec (a < b) → Ground (b ≤ a) (a < b) n (if_lt a b n 0)
    at (yes l) = inr (l, if_lt_yes 0 l)
    at (no m) = let l : b ≤ a = omega arith in inl (l, if_lt_no n l)

-- two grounds, tried in order
pub ground_or : {P Q R S : Type 0} {n : ℕ} (a b : ℕ) → 0 < n → Ground P Q n a → Ground R S n b
    → Ground (P × R) (Q ⊎ S) n (or_else a b)
ground_or a b some (inl h) (inl g) = inl ((h.0, g.0), or_else_next b h.1 ∙ g.1)
ground_or a b some (inl h) (inr g) = inr (inr g.0, or_else_next b h.1 ∙ g.1)
ground_or a b some (inr h) g =
    let e = h.1 in inr (inl h.0, or_else_first b (λ (z : a ≡ 0). omega arith) ∙ h.1)

-- a ground for each number below m
module _ {n : ℕ} (some : 0 < n) (P Q : ℕ → Type 0) (code : ℕ → ℕ) (one : (k : ℕ) → Ground (P k) (Q k) n (code k)) where
  grounds_from : (m i : ℕ)
      → Ground ((k : ℕ) → k < m → P (i + k)) ((k : ℕ) × (k < m) × Q (i + k)) n (first_of m i code)
  unfolding first_of
  grounds_from zero i = inl (λ k l. absurd (omega arith), refl)
  grounds_from (suc m) i =
      ground_as each some_one
      (ground_or (code i) (first_of m (suc i) code) some (one i) (grounds_from m (suc i)))
    where
      each : P i × ((k : ℕ) → k < m → P (suc i + k)) → (k : ℕ) → k < suc m → P (i + k)
      each h zero l = subst P (omega arith) h.0
      each h (suc k) l = subst P (omega arith) (h.1 k (omega arith))

      some_one : Q i ⊎ ((k : ℕ) × (k < m) × Q (suc i + k)) → (k : ℕ) × (k < suc m) × Q (i + k)
      some_one (inl q) = (0, omega arith, subst Q (omega arith) q)
      some_one (inr h) = let l = h.1 in (suc h.0, omega arith, subst Q (omega arith) h.2)

  pub grounds_below : (m : ℕ) → Ground ((k : ℕ) → k < m → P k) ((k : ℕ) × (k < m) × Q k) n (first_of m 0 code)
  grounds_below m =
      ground_as (λ h k l. subst P (zero-add k) (h k l)) (λ h. (h.0, h.1, subst Q (zero-add h.0) h.2))
      (grounds_from m 0)
