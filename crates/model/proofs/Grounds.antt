-- Laws of grounds tried in order: which one counts, that there is none exactly if there is none at each step, and the
-- reply by the number of the ground.
use Prim.Native.Nat.{ℕ, zero, suc, ◌+◌, ◌≤◌, ◌<◌}
use mathlib.Core.Path.{◌≡◌, refl, sym, ap, subst, ◌∙◌}
use mathlib.Core.List.{List}
use native.Mathlib.Nat.{not-suc-le-zero}
use native.Mathlib.Decide.{ℕ_discrete, dec_lt}
use native.Mathlib.Omega.{arith}
use mathlib.Core.Bool.{Bool, true, false}
use lib.Dec.{ltb, leb, eqb}
use Rattle.columns.specs.Test.{pick, if_eq, if_lt, if_le}
use Rattle.columns.proofs.Test.{if_eq_yes, if_eq_no, if_lt_yes, if_lt_no, if_le_no, is_if_eq, is_if_ne}
use Rattle.model.specs.Refusal.{or_else, first_of}
use Rattle.model.specs.Reply.{refused, answered, reply_of}

-- two grounds: the second counts where the first is none, and otherwise the first
pub or_else_next : {a : ℕ} (b : ℕ) → a ≡ 0 → or_else a b ≡ b
unfolding or_else
or_else_next {a} b e = if_eq_yes a e

pub or_else_first : {a : ℕ} (b : ℕ) → (a ≡ 0 → ⊥) → or_else a b ≡ a
unfolding or_else
or_else_first b n = if_eq_no b n

-- and backwards, as code finds it: a code that is not 0 is the answer; after a code that is 0 comes the next ground
pub is_this : {r a : ℕ} (b : ℕ) → r ≡ a → (r ≡ 0 → ⊥) → r ≡ or_else a b
is_this b e n = e ∙ sym (or_else_first b (λ z. n (e ∙ z)))

pub is_next : {r b : ℕ} (a : ℕ) → a ≡ 0 → r ≡ b → r ≡ or_else a b
is_next {b} a z e = e ∙ sym (or_else_next b z)

-- none of two grounds is none of both
pub or_else_none : {a b : ℕ} → a ≡ 0 → b ≡ 0 → or_else a b ≡ 0
or_else_none {a} {b} p q = or_else_next b p ∙ q

pub or_else_left : (a b : ℕ) → or_else a b ≡ 0 → a ≡ 0
or_else_left a b e = at (ℕ_discrete a 0)
  where
    at : Dec (a ≡ 0) → a ≡ 0
    at (yes z) = z
    at (no n) = sym (or_else_first b n) ∙ e

pub or_else_right : (a b : ℕ) → or_else a b ≡ 0 → b ≡ 0
or_else_right a b e = sym (or_else_next b (or_else_left a b e)) ∙ e

pub or_else_both : (a b : ℕ) → or_else a b ≡ 0 → (a ≡ 0) × (b ≡ 0)
or_else_both a b e = (or_else_left a b e, or_else_right a b e)

-- nothing after a ground, and three grounds
pub or_else_zero : (a : ℕ) → or_else a 0 ≡ a
or_else_zero a = at (ℕ_discrete a 0)
  where
    at : Dec (a ≡ 0) → or_else a 0 ≡ a
    at (yes z) = or_else_next 0 z ∙ sym z
    at (no n) = or_else_first 0 n

pub or_else_assoc : (a b c : ℕ) → or_else a (or_else b c) ≡ or_else (or_else a b) c
or_else_assoc a b c = at (ℕ_discrete a 0)
  where
    at : Dec (a ≡ 0) → or_else a (or_else b c) ≡ or_else (or_else a b) c
    at (yes z) = or_else_next (or_else b c) z ∙ ap (λ (x : ℕ). or_else x c) (sym (or_else_next b z))
    at (no n) =
        or_else_first (or_else b c) n ∙ sym (ap (λ (x : ℕ). or_else x c) (or_else_first b n) ∙ or_else_first c n)

-- a row of grounds
pub first_of_none : (n i : ℕ) (f : ℕ → ℕ) → ((k : ℕ) → k < n → f (i + k) ≡ 0) → first_of n i f ≡ 0
unfolding first_of
first_of_none zero i f h = refl
first_of_none (suc n) i f h =
    or_else_none (subst (λ (j : ℕ). f j ≡ 0) (omega arith) (h 0 (omega arith)))
    (first_of_none n (suc i) f (λ k l. subst (λ (j : ℕ). f j ≡ 0) (omega arith) (h (suc k) (omega arith))))

pub first_of_each : (n i : ℕ) (f : ℕ → ℕ) → first_of n i f ≡ 0 → (k : ℕ) → k < n → f (i + k) ≡ 0
unfolding first_of
first_of_each zero i f e k l = absurd (not-suc-le-zero l)
first_of_each (suc n) i f e zero l =
    subst (λ (j : ℕ). f j ≡ 0) (omega arith) (or_else_left (f i) (first_of n (suc i) f) e)
first_of_each (suc n) i f e (suc k) l =
    subst (λ (j : ℕ). f j ≡ 0) (omega arith)
    (first_of_each n (suc i) f (or_else_right (f i) (first_of n (suc i) f) e) k (omega arith))

-- one ground: a test between 0 and a number that is not 0
pub if_eq_passes : (a b x n : ℕ) → (n ≡ 0 → ⊥) → if_eq a b x n ≡ 0 → a ≡ b
if_eq_passes a b x n p e = at (ℕ_discrete a b)
  where
    at : Dec (a ≡ b) → a ≡ b
    at (yes q) = q
    at (no q) = absurd (p (sym (if_eq_no x q) ∙ e))

pub if_eq_fails : (a b x n : ℕ) → (n ≡ 0 → ⊥) → if_eq a b n x ≡ 0 → a ≡ b → ⊥
if_eq_fails a b x n p e q = p (sym (if_eq_yes x q) ∙ e)

pub if_lt_passes : (a b x n : ℕ) → (n ≡ 0 → ⊥) → if_lt a b x n ≡ 0 → a < b
if_lt_passes a b x n p e = at (dec_lt a b)
  where
    at : Dec (a < b) → a < b
    at (yes q) = q
    at (no q) = absurd (p (sym (if_lt_no x (omega arith)) ∙ e))

pub if_lt_fails : (a b x n : ℕ) → (n ≡ 0 → ⊥) → if_lt a b n x ≡ 0 → b ≤ a
if_lt_fails a b x n p e = at (dec_lt a b)
  where
    at : Dec (a < b) → b ≤ a
    at (yes q) = absurd (p (sym (if_lt_yes x q) ∙ e))
    at (no q) = omega arith

pub if_le_passes : (a b x n : ℕ) → (n ≡ 0 → ⊥) → if_le a b x n ≡ 0 → a ≤ b
if_le_passes a b x n p e = at (dec_lt b a)
  where
    at : Dec (b < a) → a ≤ b
    at (yes q) = absurd (p (sym (if_le_no x q) ∙ e))
    at (no q) = omega arith

-- a bound on both values of a test is a bound on its value, and so for the first of two grounds and of a row of them
pub pick_le : (t : Bool) {m x y : ℕ} → x ≤ m → y ≤ m → pick t x y ≤ m
pick_le true p q = p
pick_le false p q = q

pub if_eq_le : (a b : ℕ) {m x y : ℕ} → x ≤ m → y ≤ m → if_eq a b x y ≤ m
unfolding if_eq
if_eq_le a b p q = pick_le (eqb a b) p q

pub if_lt_le : (a b : ℕ) {m x y : ℕ} → x ≤ m → y ≤ m → if_lt a b x y ≤ m
unfolding if_lt
if_lt_le a b p q = pick_le (ltb a b) p q

pub if_le_le : (a b : ℕ) {m x y : ℕ} → x ≤ m → y ≤ m → if_le a b x y ≤ m
unfolding if_le
if_le_le a b p q = pick_le (leb a b) p q

pub or_else_le : {m x y : ℕ} → x ≤ m → y ≤ m → or_else x y ≤ m
unfolding or_else
or_else_le {x} p q = if_eq_le x 0 q p

pub first_of_le : (n i : ℕ) (f : ℕ → ℕ) {m : ℕ} → ((k : ℕ) → f k ≤ m) → first_of n i f ≤ m
unfolding first_of
first_of_le zero i f h = omega arith
first_of_le (suc n) i f h = or_else_le (h i) (first_of_le n (suc i) f h)

-- a reply by its code
pub reply_refused : {n code : ℕ} (values : List ℕ) → n ≡ code → (n ≡ 0 → ⊥) → refused n ≡ reply_of code values
unfolding reply_of
reply_refused values e z = is_if_ne _ (λ y. z (e ∙ y)) (ap refused e)

pub reply_answered : {code : ℕ} (values : List ℕ) → code ≡ 0 → answered values ≡ reply_of code values
unfolding reply_of
reply_answered values e = is_if_eq _ e refl
