-- A sum over the sets of n columns in listing order is the sum over all numbers below 2^n: the order is those
-- numbers, rearranged.
use Prim.Native.Nat.{ℕ, zero, suc, ◌+◌, ◌^◌, ◌≤◌, ◌<◌}
use mathlib.Core.Path.{◌≡◌, refl, sym, ap, ap₂, ◌∙◌}
use mathlib.Core.List.{List, [], ◌∷◌, ◌++◌}
use native.Mathlib.Nat.{zero-add, add-zero, suc-add, add-suc}
use native.Mathlib.Decide.{ℕ_discrete}
use native.Mathlib.Omega.{arith}
use lib.Count.{ones-le}
use Rattle.columns.specs.Test.{if_eq}
use Rattle.columns.specs.Set.{size_of}
use Rattle.columns.specs.Order.{in_order, by_size_from, of_size, of_size_from}
use Rattle.columns.proofs.Test.{if_eq_yes, if_eq_no}
use Rattle.columns.proofs.Pascal.{from_yes, from_no}

-- over a list, over m numbers from x on, and over all numbers below n
abbrev pub sum_over : (ℕ → ℕ) → List ℕ → ℕ
sum_over f [] = 0
sum_over f (x ∷ xs) = f x + sum_over f xs

abbrev sum_from : (ℕ → ℕ) → ℕ → ℕ → ℕ
sum_from f zero x = 0
sum_from f (suc m) x = f x + sum_from f m (suc x)

abbrev pub sum_below : (ℕ → ℕ) → ℕ → ℕ
sum_below f zero = 0
sum_below f (suc n) = f n + sum_below f n

sum_over_append : (f : ℕ → ℕ) (xs ys : List ℕ) → sum_over f (xs ++ ys) ≡ sum_over f xs + sum_over f ys
sum_over_append f [] ys = omega arith
sum_over_append f (x ∷ xs) ys = omega (arith, sum_over_append f xs ys)

sum_from_add : (f g : ℕ → ℕ) (m x : ℕ) → sum_from f m x + sum_from g m x ≡ sum_from (λ y. f y + g y) m x
sum_from_add f g zero x = refl
sum_from_add f g (suc m) x = omega (arith, sum_from_add f g m (suc x))

sum_from_same : (f g : ℕ → ℕ) (m x : ℕ) → ((y : ℕ) → x ≤ y → y < x + m → f y ≡ g y) → sum_from f m x ≡ sum_from g m x
sum_from_same f g zero x h = refl
sum_from_same f g (suc m) x h =
    ap₂ ◌+◌ (h x (omega arith) (omega arith)) (sum_from_same f g m (suc x) (λ y l u. h y (omega arith) (omega arith)))

sum_from_zero : (m x : ℕ) → sum_from (λ y. 0) m x ≡ 0
sum_from_zero zero x = refl
sum_from_zero (suc m) x = omega (arith, sum_from_zero m (suc x))

sum_from_below : (f : ℕ → ℕ) (m x : ℕ) → sum_from f m x + sum_below f x ≡ sum_below f (x + m)
sum_from_below f zero x = zero-add (sum_below f x) ∙ ap (sum_below f) (sym (add-zero x))
sum_from_below f (suc m) x =
    let e : sum_below f (suc x + m) ≡ sum_below f (x + suc m) = ap (sum_below f) (suc-add x m ∙ sym (add-suc x m)) in
    omega (arith, sum_from_below f m (suc x))

-- f of a number of size k, and 0 of any other; and of a number whose size is one of m, from k on
of_one : (ℕ → ℕ) → ℕ → ℕ → ℕ
of_one f k x = if_eq (size_of x) k (f x) 0

of_some : (ℕ → ℕ) → ℕ → ℕ → ℕ → ℕ
of_some f zero k x = 0
of_some f (suc m) k x = of_one f k x + of_some f m (suc k) x

some_none : (f : ℕ → ℕ) (m k x : ℕ) → size_of x < k → of_some f m k x ≡ 0
unfolding of_some of_one
some_none f zero k x h = refl
some_none f (suc m) k x h =
    ap₂ ◌+◌ (if_eq_no (f x) (λ (e : size_of x ≡ k). omega arith)) (some_none f m (suc k) x (omega arith))

some_one : (f : ℕ → ℕ) (m k x : ℕ) → k ≤ size_of x → size_of x < k + m → of_some f m k x ≡ f x
unfolding of_some of_one
some_one f zero k x l u = absurd (omega arith)
some_one f (suc m) k x l u = at (λ n. some_one f m (suc k) x (omega arith) (omega arith)) (ℕ_discrete (size_of x) k)
  where
    at : ((size_of x ≡ k → ⊥) → of_some f m (suc k) x ≡ f x) → Dec (size_of x ≡ k)
        → of_one f k x + of_some f m (suc k) x ≡ f x
    at ih (yes e) = ap₂ ◌+◌ (if_eq_yes 0 e) (some_none f m (suc k) x (omega arith)) ∙ omega arith
    at ih (no n) = ap₂ ◌+◌ (if_eq_no (f x) n) (ih n) ∙ omega arith

-- the sums of the parts of the order
sum_from_lem : (f : ℕ → ℕ) (k m x : ℕ) → sum_over f (of_size_from k m x) ≡ sum_from (of_one f k) m x
unfolding of_size_from of_one
sum_from_lem f k zero x = refl
sum_from_lem f k (suc m) x = at (sum_from_lem f k m (suc x)) (ℕ_discrete (size_of x) k)
  where
    at : sum_over f (of_size_from k m (suc x)) ≡ sum_from (of_one f k) m (suc x) → Dec (size_of x ≡ k)
        → sum_over f (of_size_from k (suc m) x) ≡ of_one f k x + sum_from (of_one f k) m (suc x)
    at ih (yes e) = ap (sum_over f) (from_yes k m x e) ∙ ap₂ ◌+◌ (sym (if_eq_yes 0 e)) ih
    at ih (no n) = ap (sum_over f) (from_no k m x n) ∙ ih
        ∙ sym (ap (λ v. v + sum_from (of_one f k) m (suc x)) (if_eq_no (f x) n) ∙ omega arith)

sum_by_size : (f : ℕ → ℕ) (n m k : ℕ) → sum_over f (by_size_from n m k) ≡ sum_from (of_some f m k) (2 ^ n) 0
unfolding by_size_from of_size of_some
sum_by_size f n zero k = sym (sum_from_zero (2 ^ n) 0)
sum_by_size f n (suc m) k =
    sum_over_append f (of_size_from k (2 ^ n) 0) (by_size_from n m (suc k))
    ∙ ap₂ ◌+◌ (sum_from_lem f k (2 ^ n) 0) (sum_by_size f n m (suc k))
    ∙ sum_from_add (of_one f k) (of_some f m (suc k)) (2 ^ n) 0

pub sum_in_order : (f : ℕ → ℕ) (n : ℕ) → sum_over f (in_order n) ≡ sum_below f (2 ^ n)
unfolding in_order
sum_in_order f n =
    sum_by_size f n (suc n) 0
    ∙ sum_from_same (of_some f (suc n) 0) f (2 ^ n) 0
    (λ y l u. let s = ones-le n y (omega arith) in some_one f (suc n) 0 y (omega arith) (omega arith))
    ∙ below (sum_from_below f (2 ^ n) 0)
  where
    below : sum_from f (2 ^ n) 0 + 0 ≡ sum_below f (0 + 2 ^ n) → sum_from f (2 ^ n) 0 ≡ sum_below f (2 ^ n)
    below e =
        let z : sum_below f (0 + 2 ^ n) ≡ sum_below f (2 ^ n) = ap (sum_below f) (zero-add (2 ^ n)) in
        omega arith
