-- Laws of tests: what a test of a conjunction, a disjunction, a negation and an implication says, and the two ways to
-- write that a test passes or fails.
use Prim.Native.Nat.{ℕ, zero, suc, ◌<◌}
use mathlib.Core.Path.{◌≡◌, refl, sym, subst}
use mathlib.Core.Logic.{◌⊎◌, inl, inr, ◌↔◌}
use mathlib.Core.Bool.{Bool, true, false, not, ◌&&◌, ◌||◌}
use native.Mathlib.Nat.{eq-or-lt_of_le, not-suc-le-zero, le_of_suc-le-suc}
use native.Mathlib.Omega.{arith}
use lib.Dec.{T, eqb, eqb→eq, eqb_refl}
use Rattle.model.specs.View.{all_below, some_below}

-- a test passes, or fails, as an equation
pub is_true : {b : Bool} → T b → b ≡ true
is_true {b = true} t = refl
is_true {b = false} t = absurd t

pub true_is : {b : Bool} → b ≡ true → T b
true_is e = subst T (sym e) tt

pub is_false : {b : Bool} → (T b → ⊥) → b ≡ false
is_false {b = true} n = absurd (n tt)
is_false {b = false} n = refl

pub false_is : {b : Bool} → b ≡ false → T b → ⊥
false_is e t = subst T e t

pub decided : (b : Bool) → T b ⊎ (T b → ⊥)
decided true = inl tt
decided false = inr (λ t. t)

-- two tests that pass together are equal
pub same_test : (a b : Bool) → (T a → T b) → (T b → T a) → a ≡ b
same_test true b f g = sym (is_true (f tt))
same_test false true f g = absurd (g tt)
same_test false false f g = refl

-- the connectives
pub and_is : (a b : Bool) → T (a && b) ↔ (T a × T b)
and_is true b = (λ t. (tt, t), λ h. h.1)
and_is false b = (λ t. absurd t, λ h. h.0)

pub or_is : (a b : Bool) → T (a || b) ↔ (T a ⊎ T b)
or_is true b = (λ t. inl tt, λ h. tt)
or_is false b = (λ t. inr t, elim [ inl t ↦ absurd t | inr t ↦ t ])

pub not_is : (a : Bool) → T (not a) ↔ (T a → ⊥)
not_is true = (λ n t. n, λ n. n tt)
not_is false = (λ t n. n, λ n. tt)

pub implies_is : (a b : Bool) → T (not a || b) ↔ (T a → T b)
implies_is true b = (λ t h. t, λ f. f tt)
implies_is false b = (λ t h. absurd h, λ f. tt)

pub eqb_is : (m n : ℕ) → T (eqb m n) ↔ (m ≡ n)
eqb_is m n = (eqb→eq m n, λ e. subst (λ (k : ℕ). T (eqb m k)) e (eqb_refl m))

-- what holds of every number below n
pub all_below_is : (n : ℕ) (f : ℕ → Bool) → T (all_below n f) ↔ ((k : ℕ) → k < n → T (f k))
unfolding all_below
all_below_is zero f = (λ t k h. absurd (not-suc-le-zero h), λ h. tt)
all_below_is (suc n) f = (
  λ t k h. at k ((and_is (f n) (all_below n f)).0 t) (all_below_is n f).0 (eq-or-lt_of_le (le_of_suc-le-suc h)),
  λ h. (and_is (f n) (all_below n f)).1 (h n (omega arith), (all_below_is n f).1 (λ k l. h k (omega arith))),
)
  where
    at : (k : ℕ) → T (f n) × T (all_below n f) → (T (all_below n f) → (j : ℕ) → j < n → T (f j)) → (k ≡ n) ⊎ (k < n)
        → T (f k)
    at k t below (inl e) = subst (λ (j : ℕ). T (f j)) (sym e) t.0
    at k t below (inr l) = below t.1 k l

-- a failed test of all numbers below n has one that fails
pub one_fails : (n : ℕ) (f : ℕ → Bool) → (T (all_below n f) → ⊥) → (k : ℕ) × (k < n) × (T (f k) → ⊥)
unfolding all_below
one_fails zero f h = absurd (h tt)
one_fails (suc n) f h = first (one_fails n f) (decided (f n))
  where
    first : ((T (all_below n f) → ⊥) → (k : ℕ) × (k < n) × (T (f k) → ⊥)) → T (f n) ⊎ (T (f n) → ⊥)
        → (k : ℕ) × (k < suc n) × (T (f k) → ⊥)
    first below (inr fails) = (n, omega arith, fails)
    first below (inl holds) =
        let r = below (λ t. h ((and_is (f n) (all_below n f)).1 (holds, t))) in
        (r.0, omega arith, r.2)

-- what holds of some number below n
pub some_below_is : (n : ℕ) (f : ℕ → Bool) → T (some_below n f) ↔ ((k : ℕ) × (k < n) × T (f k))
unfolding some_below
some_below_is zero f = (λ t. absurd t, λ h. absurd (not-suc-le-zero h.1))
some_below_is (suc n) f = (
  λ t. here (some_below_is n f).0 ((or_is (f n) (some_below n f)).0 t),
  λ h. (or_is (f n) (some_below n f)).1
      (there h.0 h.2 (some_below_is n f).1 (eq-or-lt_of_le (le_of_suc-le-suc h.1))),
)
  where
    here : (T (some_below n f) → (k : ℕ) × (k < n) × T (f k)) → T (f n) ⊎ T (some_below n f)
        → (k : ℕ) × (k < suc n) × T (f k)
    here below (inl t) = (n, omega arith, t)
    here below (inr t) =
        let r = below t in
        let l = r.1 in
        (r.0, omega arith, r.2)

    there : (k : ℕ) → T (f k) → ((k : ℕ) × (k < n) × T (f k) → T (some_below n f)) → (k ≡ n) ⊎ (k < n)
        → T (f n) ⊎ T (some_below n f)
    there k t below (inl e) = inl (subst (λ (j : ℕ). T (f j)) e t)
    there k t below (inr l) = inr (below (k, l, t))
