-- The listing order of the sets of n columns, for every n: its members, that it is sorted, and what a walk along it
-- needs.
use Rattle.std.specs.Prelude.{Some, None}
use Prim.Native.Nat.{ℕ, zero, suc, ◌+◌, ◌^◌, ◌≤◌, ◌<◌}
use mathlib.Core.Path.{◌≡◌, sym, ap, ◌∙◌, subst}
use mathlib.Core.Bool.{true, false}
use mathlib.Core.Logic.{inl, inr, ⊎_elim}
use mathlib.Core.List.{List, ◌∷◌, Memᴰ}
use native.Mathlib.Decide.{ℕ_discrete, dec_lt}
use native.Mathlib.Omega.{arith}
use borrow.Author.Tests.{ltb-true, lt-ltb}
use lib.Dec.{lit<}
use lib.Count.{ones, ones_in, ones-le}
use lib.ListN.{get_or, drop}
use lib.Seq.{drop-cons}
use Rattle.columns.specs.Bound.{column_bound}
use Rattle.columns.specs.Set.{size_of, set_of}
use Rattle.columns.specs.Order.{Precedes, precedes_of, Ordered, Once, of_size_from, of_size, by_size_from, in_order}
use Rattle.columns.specs.Order.{nth, next_of, at_of}
use Rattle.columns.proofs.Test.{if_eq_yes, if_eq_no, if_lt_yes, if_lt_no, if_le_yes}
use Rattle.columns.proofs.Pascal.{from_yes, from_no, length_in_order}
use Rattle.columns.proofs.Lists.{ordered_once, ordered_append, nth_get_d, nth_past, get_d_mem, after_nth}

-- `precedes_of` is the order
pub precedes_test : (x y : ℕ) → Precedes x y → precedes_of x y ≡ true
unfolding precedes_of
precedes_test x y (inl h) = if_lt_yes _ h
precedes_test x y (inr h) = if_lt_no _ (omega arith) ∙ if_eq_yes _ h.0 ∙ lt-ltb x y h.1

pub test_precedes : (x y : ℕ) → precedes_of x y ≡ true → Precedes x y
unfolding precedes_of
test_precedes x y t = go (dec_lt (size_of x) (size_of y)) (ℕ_discrete (size_of x) (size_of y))
  where
    go : Dec (size_of x < size_of y) → Dec (size_of x ≡ size_of y) → Precedes x y
    go (yes h) d = inl h
    go (no n) (yes e) = inr (e, ltb-true x y (sym (if_lt_no _ (omega arith) ∙ if_eq_yes _ e) ∙ t))
    go (no n) (no m) =
        let f : false ≡ true = sym (if_lt_no _ (omega arith) ∙ if_eq_no _ m) ∙ t in
        let z : ◌≡◌ {A = ℕ} 0 1 = cc in
        absurd (omega arith)

-- members of a size, of a run of numbers
mem_from : (k m x y : ℕ) → Memᴰ y (of_size_from k m x) → (x ≤ y) × (y < x + m) × (size_of y ≡ k)
unfolding of_size_from
mem_from k zero x y h = absurd (mathlib.Core.List.Memᴰ.not-nil h)
mem_from k (suc m) x y h = go (λ t. mem_from k m (suc x) y t) (ℕ_discrete (size_of x) k)
  where
    up : (suc x ≤ y) × (y < suc x + m) × (size_of y ≡ k) → (x ≤ y) × (y < x + suc m) × (size_of y ≡ k)
    up w = (omega arith, omega arith, w.2)

    go : (Memᴰ y (of_size_from k m (suc x)) → (suc x ≤ y) × (y < suc x + m) × (size_of y ≡ k))
        → Dec (size_of x ≡ k) → (x ≤ y) × (y < x + suc m) × (size_of y ≡ k)
    go ih (yes e) =
        ⊎_elim (λ (q : y ≡ x). (omega arith, omega arith, ap size_of q ∙ e)) (λ t. up (ih t))
        (mathlib.Core.List.Memᴰ.cases_cons (subst (λ (l : List ℕ). Memᴰ y l) (from_yes k m x e) h))
    go ih (no n) = up (ih (subst (λ (l : List ℕ). Memᴰ y l) (from_no k m x n) h))

from_mem : (k m x y : ℕ) → x ≤ y → y < x + m → size_of y ≡ k → Memᴰ y (of_size_from k m x)
from_mem k zero x y l u s = absurd (omega arith)
from_mem k (suc m) x y l u s =
    go (λ (h : suc x ≤ y). from_mem k m (suc x) y h (omega arith) s) (ℕ_discrete y x) (ℕ_discrete (size_of x) k)
  where
    go : (suc x ≤ y → Memᴰ y (of_size_from k m (suc x))) → Dec (y ≡ x) → Dec (size_of x ≡ k)
        → Memᴰ y (of_size_from k (suc m) x)
    go ih (yes q) (yes e) = subst (λ (r : List ℕ). Memᴰ y r) (sym (from_yes k m x e)) (mathlib.Core.List.Memᴰ.head q)
    go ih (yes q) (no n) = absurd (n (sym (ap size_of q) ∙ s))
    go ih (no v) (yes e) =
        subst (λ (r : List ℕ). Memᴰ y r) (sym (from_yes k m x e)) (mathlib.Core.List.Memᴰ.tail (ih (omega arith)))
    go ih (no v) (no n) = subst (λ (r : List ℕ). Memᴰ y r) (sym (from_no k m x n)) (ih (omega arith))

-- members of a size
pub mem_of_size : (n k x : ℕ) → Memᴰ x (of_size n k) → (x < 2 ^ n) × (size_of x ≡ k)
unfolding of_size
mem_of_size n k x m = let w = mem_from k (2 ^ n) 0 x m in (omega arith, w.2)

pub of_size_mem : (n k x : ℕ) → x < 2 ^ n → size_of x ≡ k → Memᴰ x (of_size n k)
unfolding of_size
of_size_mem n k x h e = from_mem k (2 ^ n) 0 x (omega arith) (omega arith) e

-- members of some sizes
mem_by_size : (n m k x : ℕ) → Memᴰ x (by_size_from n m k) → (x < 2 ^ n) × (k ≤ size_of x) × (size_of x < k + m)
unfolding by_size_from
mem_by_size n zero k x h = absurd (mathlib.Core.List.Memᴰ.not-nil h)
mem_by_size n (suc m) k x h =
    ⊎_elim
    (λ (t : Memᴰ x (of_size n k)). let w = mem_of_size n k x t in (w.0, omega arith, omega arith))
    (λ (t : Memᴰ x (by_size_from n m (suc k))).
    let w = mem_by_size n m (suc k) x t in (w.0, omega arith, omega arith))
    (mathlib.Core.List.Memᴰ.append_cases (of_size n k) h)

by_size_mem : (n m k x : ℕ) → x < 2 ^ n → k ≤ size_of x → size_of x < k + m → Memᴰ x (by_size_from n m k)
unfolding by_size_from
by_size_mem n zero k x h l u = absurd (omega arith)
by_size_mem n (suc m) k x h l u =
    elim (ℕ_discrete (size_of x) k) [
      | yes e ↦ mathlib.Core.List.Memᴰ.append_left (by_size_from n m (suc k)) (of_size_mem n k x h e)
      | no v ↦ mathlib.Core.List.Memᴰ.append_right (of_size n k) (by_size_mem n m (suc k) x h (omega arith) (omega arith))
    ]

-- the order has every set of n columns, and nothing else
pub mem_in_order : (n x : ℕ) → Memᴰ x (in_order n) → x < 2 ^ n
unfolding in_order
mem_in_order n x m = (mem_by_size n (suc n) 0 x m).0

pub in_order_mem : (n x : ℕ) → x < 2 ^ n → Memᴰ x (in_order n)
unfolding in_order
in_order_mem n x h = let s = ones-le n x h in by_size_mem n (suc n) 0 x h (omega arith) (omega arith)

-- the order is sorted, so each set stands once in it
ordered_from : (k m x : ℕ) → Ordered (of_size_from k m x)
unfolding of_size_from
ordered_from k zero x = tt
ordered_from k (suc m) x = go (ordered_from k m (suc x)) (ℕ_discrete (size_of x) k)
  where
    go : Ordered (of_size_from k m (suc x)) → Dec (size_of x ≡ k) → Ordered (of_size_from k (suc m) x)
    go ih (yes e) =
        subst Ordered (sym (from_yes k m x e))
        (λ y t. let w = mem_from k m (suc x) y t in inr (e ∙ sym w.2, w.0), ih)
    go ih (no n) = subst Ordered (sym (from_no k m x n)) ih

pub ordered_of_size : (n k : ℕ) → Ordered (of_size n k)
unfolding of_size
ordered_of_size n k = ordered_from k (2 ^ n) 0

ordered_by_size : (n m k : ℕ) → Ordered (by_size_from n m k)
unfolding by_size_from
ordered_by_size n zero k = tt
ordered_by_size n (suc m) k =
    ordered_append (of_size n k) (by_size_from n m (suc k)) (ordered_of_size n k) (ordered_by_size n m (suc k))
    (λ x y mx my. let v = mem_of_size n k x mx in let w = mem_by_size n m (suc k) y my in inl (omega arith))

pub ordered_in_order : (n : ℕ) → Ordered (in_order n)
unfolding in_order
ordered_in_order n = ordered_by_size n (suc n) 0

pub once_in_order : (n : ℕ) → Once (in_order n)
once_in_order n = ordered_once (in_order n) (ordered_in_order n)

-- a walk along the order
pub drop_in_order : (n i : ℕ) → i < 2 ^ n → drop i (in_order n) ≡ get_or (in_order n) i 0 ∷ drop (suc i) (in_order n)
drop_in_order n i h = drop-cons (in_order n) i 0 (rw (length_in_order n) h)

pub get_d_in_order_lt : (n i : ℕ) → i < 2 ^ n → get_or (in_order n) i 0 < 2 ^ n
get_d_in_order_lt n i h = mem_in_order n (get_or (in_order n) i 0) (get_d_mem (in_order n) i (rw (length_in_order n) h))

pub nth_in_order : (n i : ℕ) → i < 2 ^ n → nth (in_order n) i ≡ Some (set_of (get_or (in_order n) i 0))
nth_in_order n i h = nth_get_d (in_order n) i (rw (length_in_order n) h)

-- the next set is the one that stands after
pub next_after : (n i x : ℕ) → n ≤ column_bound → nth (in_order n) i ≡ Some (set_of x)
    → next_of n x ≡ nth (in_order n) (suc i)
unfolding next_of
next_after n i x b e = if_le_yes None b ∙ after_nth (in_order n) i x (once_in_order n) e

pub nth_in_order_past : (n i : ℕ) → 2 ^ n ≤ i → nth (in_order n) i ≡ None
nth_in_order_past n i h = nth_past (in_order n) i (rw (length_in_order n) h)

pub next_at : (n i : ℕ) → n ≤ column_bound → suc i < 2 ^ n
    → next_of n (get_or (in_order n) i 0) ≡ Some (set_of (get_or (in_order n) (suc i) 0))
next_at n i b h =
    next_after n i (get_or (in_order n) i 0) b (nth_in_order n i (omega arith)) ∙ nth_in_order n (suc i) h

pub next_at_last : (n i : ℕ) → n ≤ column_bound → suc i ≡ 2 ^ n → next_of n (get_or (in_order n) i 0) ≡ None
next_at_last n i b e =
    next_after n i (get_or (in_order n) i 0) b (nth_in_order n i (omega arith)) ∙ nth_in_order_past n (suc i) (omega arith)

-- the set at an index
pub at_inside : (n i : ℕ) → n ≤ column_bound → i < 2 ^ n → at_of n i ≡ Some (set_of (get_or (in_order n) i 0))
unfolding at_of
at_inside n i b h = if_le_yes None b ∙ nth_in_order n i h

-- K10: in the order of 3 columns, left 4 precedes left 3
pub four_precedes_three : Precedes 4 3
unfolding ones ones_in
four_precedes_three = inl (lit< tt)
