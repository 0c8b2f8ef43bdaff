-- Laws of the tests that choose between two values (`specs/Test.antt`): forwards, what a test gives; and backwards,
-- what shows that a value is the one a test gives. The value that is not chosen is the one explicit argument besides.
use Prim.Native.Nat.{ℕ, ◌≤◌, ◌<◌}
use mathlib.Core.Path.{◌≡◌, refl, sym, ap, ◌∙◌}
use mathlib.Core.Bool.{Bool, true, false, cond}
use borrow.Author.Tests.{eq-eqb, ne_eqb, lt-ltb, le-ltb, le-leb, lt-leb}
use lib.Dec.{ltb, eqb}
use Rattle.std.specs.Prelude.{Some}
use Rattle.std.proofs.Common.{Less, Equal, Greater}
use Rattle.std.specs.Ordering.{is_lt, is_some_and, nat_cmp, partial_ordering_then}
use Rattle.columns.specs.Test.{pick, if_eq, if_lt, if_le}

picks : {A : Type 0} {t u : Bool} → t ≡ u → (x y : A) → pick t x y ≡ pick u x y
picks e x y = ap (λ (b : Bool). pick b x y) e

-- forwards
pub if_eq_yes : {A : Type 0} {a b : ℕ} {x : A} (y : A) → a ≡ b → if_eq a b x y ≡ x
unfolding if_eq
if_eq_yes {a} {b} {x} y e = picks (eq-eqb a b e) x y

pub if_eq_no : {A : Type 0} {a b : ℕ} (x : A) {y : A} → (a ≡ b → ⊥) → if_eq a b x y ≡ y
unfolding if_eq
if_eq_no {a} {b} x {y} n = picks (ne_eqb a b n) x y

pub if_lt_yes : {A : Type 0} {a b : ℕ} {x : A} (y : A) → a < b → if_lt a b x y ≡ x
unfolding if_lt
if_lt_yes {a} {b} {x} y h = picks (lt-ltb a b h) x y

pub if_lt_no : {A : Type 0} {a b : ℕ} (x : A) {y : A} → b ≤ a → if_lt a b x y ≡ y
unfolding if_lt
if_lt_no {a} {b} x {y} h = picks (le-ltb a b h) x y

pub if_le_yes : {A : Type 0} {a b : ℕ} {x : A} (y : A) → a ≤ b → if_le a b x y ≡ x
unfolding if_le
if_le_yes {a} {b} {x} y h = picks (le-leb a b h) x y

pub if_le_no : {A : Type 0} {a b : ℕ} (x : A) {y : A} → b < a → if_le a b x y ≡ y
unfolding if_le
if_le_no {a} {b} x {y} h = picks (lt-leb a b h) x y

-- backwards
pub is_if_eq : {A : Type 0} {a b : ℕ} {r x : A} (y : A) → a ≡ b → r ≡ x → r ≡ if_eq a b x y
is_if_eq y e p = p ∙ sym (if_eq_yes y e)

pub is_if_ne : {A : Type 0} {a b : ℕ} {r : A} (x : A) {y : A} → (a ≡ b → ⊥) → r ≡ y → r ≡ if_eq a b x y
is_if_ne x n p = p ∙ sym (if_eq_no x n)

pub is_if_lt : {A : Type 0} {a b : ℕ} {r x : A} (y : A) → a < b → r ≡ x → r ≡ if_lt a b x y
is_if_lt y h p = p ∙ sym (if_lt_yes y h)

pub is_if_not_lt : {A : Type 0} {a b : ℕ} {r : A} (x : A) {y : A} → b ≤ a → r ≡ y → r ≡ if_lt a b x y
is_if_not_lt x h p = p ∙ sym (if_lt_no x h)

pub is_if_le : {A : Type 0} {a b : ℕ} {r x : A} (y : A) → a ≤ b → r ≡ x → r ≡ if_le a b x y
is_if_le y h p = p ∙ sym (if_le_yes y h)

pub is_if_not_le : {A : Type 0} {a b : ℕ} {r : A} (x : A) {y : A} → b < a → r ≡ y → r ≡ if_le a b x y
is_if_not_le x h p = p ∙ sym (if_le_no x h)

-- pairs of numbers, compared by the first and where those are equal by the second
pub pair_below : (s t x y : ℕ) → is_some_and is_lt (partial_ordering_then (Some (nat_cmp s t)) (Some (nat_cmp x y)))
    ≡ if_lt s t true (if_eq s t (ltb x y) false)
unfolding if_lt if_eq
pair_below s t x y = at (ltb s t) (eqb s t) (ltb x y) (eqb x y)
  where
    at : (a b c d : Bool)
        → is_some_and is_lt
        (partial_ordering_then (Some (cond a Less (cond b Equal Greater))) (Some (cond c Less (cond d Equal Greater))))
        ≡ pick a true (pick b c false)
    at true b c d = refl
    at false true true d = refl
    at false true false true = refl
    at false true false false = refl
    at false false c d = refl
