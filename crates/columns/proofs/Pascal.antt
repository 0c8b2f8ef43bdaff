-- The Pascal recursion of the sets of a size: those without the last column, then those with it. How many there are
-- of a size, and of all sizes.
use Prim.Native.Nat.{ℕ, zero, suc, ◌+◌, ◌^◌, ◌≤◌, ◌<◌}
use mathlib.Core.Path.{◌≡◌, refl, sym, ap, ◌∙◌}
use mathlib.Core.List.{List, [], ◌∷◌, ◌++◌, map, append-nil}
use native.Mathlib.Nat.{le_of_eq, suc_inj, suc-ne-zero, zero-add, add-zero, suc-add, two-pow-succ}
use native.Mathlib.Decide.{ℕ_discrete}
use native.Mathlib.Omega.{arith}
use lib.ListN.{length, length-append, length-map}
use lib.Count.{ones}
use lib.Pow.{pow_pos}
use Rattle.columns.specs.Set.{size_of}
use Rattle.columns.specs.Order.{of_size_from, of_size, by_size_from, in_order}
use Rattle.columns.proofs.Test.{if_eq_yes, if_eq_no}
use Rattle.columns.proofs.Size.{size_top}

-- the first of a run of numbers is taken, or not
pub from_yes : (k m x : ℕ) → size_of x ≡ k → of_size_from k (suc m) x ≡ x ∷ of_size_from k m (suc x)
unfolding of_size_from
from_yes k m x e = if_eq_yes (of_size_from k m (suc x)) e

pub from_no : (k m x : ℕ) → (size_of x ≡ k → ⊥) → of_size_from k (suc m) x ≡ of_size_from k m (suc x)
unfolding of_size_from
from_no k m x n = if_eq_no (x ∷ of_size_from k m (suc x)) n

-- a run in two parts
from_split : (k m p x : ℕ) → of_size_from k (m + p) x ≡ of_size_from k m x ++ of_size_from k p (x + m)
unfolding of_size_from
from_split k zero p x = rw (zero-add p, add-zero x)
from_split k (suc m) p x = go (from_split k m p (suc x)) (ℕ_discrete (size_of x) k)
  where
    go : of_size_from k (m + p) (suc x) ≡ of_size_from k m (suc x) ++ of_size_from k p (suc x + m)
        → Dec (size_of x ≡ k) → of_size_from k (suc m + p) x ≡ of_size_from k (suc m) x ++ of_size_from k p (x + suc m)
    go ih (yes e) =
        let s : x + suc m ≡ suc x + m = omega arith in
        ap (λ (i : ℕ). of_size_from k i x) (suc-add m p) ∙ from_yes k (m + p) x e
        ∙ ap (λ (l : List ℕ). x ∷ l) ih
        ∙ ap (λ (i : ℕ). (x ∷ of_size_from k m (suc x)) ++ of_size_from k p i) (sym s)
        ∙ ap (λ (l : List ℕ). l ++ of_size_from k p (x + suc m)) (sym (from_yes k m x e))
    go ih (no n) =
        let s : x + suc m ≡ suc x + m = omega arith in
        ap (λ (i : ℕ). of_size_from k i x) (suc-add m p) ∙ from_no k (m + p) x n
        ∙ ih
        ∙ ap (λ (i : ℕ). of_size_from k m (suc x) ++ of_size_from k p i) (sym s)
        ∙ ap (λ (l : List ℕ). l ++ of_size_from k p (x + suc m)) (sym (from_no k m x n))

-- a run above 2^n is the run below it with bit n, and one member more
from_shift : (n k m x : ℕ) → x + m ≤ 2 ^ n
    → of_size_from (suc k) m (x + 2 ^ n) ≡ map (λ (y : ℕ). y + 2 ^ n) (of_size_from k m x)
unfolding of_size_from
from_shift n k zero x h = refl
from_shift n k (suc m) x h =
    go (size_top n x (omega arith)) (from_shift n k m (suc x) (omega arith)) (ℕ_discrete (size_of x) k)
  where
    go : size_of (x + 2 ^ n) ≡ suc (size_of x)
        → of_size_from (suc k) m (suc x + 2 ^ n) ≡ map (λ (y : ℕ). y + 2 ^ n) (of_size_from k m (suc x))
        → Dec (size_of x ≡ k)
        → of_size_from (suc k) (suc m) (x + 2 ^ n) ≡ map (λ (y : ℕ). y + 2 ^ n) (of_size_from k (suc m) x)
    go t ih (yes e) =
        from_yes (suc k) m (x + 2 ^ n) (t ∙ ap suc e)
        ∙ ap (λ (i : ℕ). (x + 2 ^ n) ∷ of_size_from (suc k) m i) (sym (suc-add x (2 ^ n)))
        ∙ ap (λ (l : List ℕ). (x + 2 ^ n) ∷ l) ih
        ∙ ap (map (λ (y : ℕ). y + 2 ^ n)) (sym (from_yes k m x e))
    go t ih (no u) =
        from_no (suc k) m (x + 2 ^ n) (λ e. u (suc_inj (sym t ∙ e)))
        ∙ ap (λ (i : ℕ). of_size_from (suc k) m i) (sym (suc-add x (2 ^ n)))
        ∙ ih
        ∙ ap (map (λ (y : ℕ). y + 2 ^ n)) (sym (from_no k m x u))

from_none : (n m x : ℕ) → x + m ≤ 2 ^ n → of_size_from 0 m (x + 2 ^ n) ≡ []
unfolding of_size_from
from_none n zero x h = refl
from_none n (suc m) x h =
    from_no 0 m (x + 2 ^ n) (λ e. suc-ne-zero (size_of x) (sym (size_top n x (omega arith)) ∙ e))
    ∙ ap (λ (i : ℕ). of_size_from 0 m i) (sym (suc-add x (2 ^ n)))
    ∙ from_none n m (suc x) (omega arith)

halves : (n k : ℕ) → of_size (suc n) k ≡ of_size n k ++ of_size_from k (2 ^ n) (0 + 2 ^ n)
unfolding of_size
halves n k = ap (λ (m : ℕ). of_size_from k m 0) (two-pow-succ n) ∙ from_split k (2 ^ n) (2 ^ n) 0

-- the recursion
pub of_size_suc_suc : (n k : ℕ)
    → of_size (suc n) (suc k) ≡ of_size n (suc k) ++ map (λ (x : ℕ). x + 2 ^ n) (of_size n k)
unfolding of_size
of_size_suc_suc n k =
    halves n (suc k)
    ∙ ap (λ (l : List ℕ). of_size n (suc k) ++ l) (from_shift n k (2 ^ n) 0 (le_of_eq (zero-add (2 ^ n))))

pub of_size_suc_zero : (n : ℕ) → of_size (suc n) 0 ≡ of_size n 0
of_size_suc_zero n =
    halves n 0
    ∙ ap (λ (l : List ℕ). of_size n 0 ++ l) (from_none n (2 ^ n) 0 (le_of_eq (zero-add (2 ^ n))))
    ∙ append-nil (of_size n 0)

of_size_zero_zero : of_size 0 0 ≡ 0 ∷ []
unfolding of_size of_size_from ones
of_size_zero_zero = from_yes 0 0 0 refl

of_size_zero_suc : (k : ℕ) → of_size 0 (suc k) ≡ []
unfolding of_size of_size_from ones
of_size_zero_suc k = from_no (suc k) 0 0 (λ e. suc-ne-zero k (sym e))

-- how many there are: Pascal's rule, and what stands at its edges
pub length_suc_suc : (n k : ℕ) → length (of_size (suc n) (suc k)) ≡ length (of_size n (suc k)) + length (of_size n k)
length_suc_suc n k = ap length (of_size_suc_suc n k) ∙ simp (length-append, length-map) refl

pub length_none : (n : ℕ) → length (of_size n 0) ≡ 1
length_none zero = ap length of_size_zero_zero
length_none (suc n) = ap length (of_size_suc_zero n) ∙ length_none n

pub length_over : (n k : ℕ) → n < k → length (of_size n k) ≡ 0
length_over n zero h = absurd (omega arith)
length_over zero (suc k) h = ap length (of_size_zero_suc k)
length_over (suc n) (suc k) h =
    omega (arith, length_suc_suc n k, length_over n (suc k) (omega arith), length_over n k (omega arith))

pub length_le : (n k : ℕ) → length (of_size n k) ≤ 2 ^ n
length_le n zero = omega (arith, length_none n, pow_pos n)
length_le zero (suc k) = omega (arith, length_over 0 (suc k) (omega arith))
length_le (suc n) (suc k) = omega (arith, length_suc_suc n k, length_le n (suc k), length_le n k, two-pow-succ n)

-- how many sets of n columns have k members or k + 1, and on for m sizes
unfoldable pub sizes_from : ℕ → ℕ → ℕ → ℕ
sizes_from n zero k = 0
sizes_from n (suc m) k = length (of_size n k) + sizes_from n m (suc k)

sizes_snoc : (n m k : ℕ) → sizes_from n (suc m) k ≡ sizes_from n m k + length (of_size n (k + m))
unfolding sizes_from
sizes_snoc n zero k = rw (add-zero k) (omega arith)
sizes_snoc n (suc m) k =
    let s : suc k + m ≡ k + suc m = omega arith in
    let e = ap (λ (j : ℕ). length (of_size n j)) s in
    omega (arith, sizes_snoc n m (suc k))

sizes_pascal : (n m k : ℕ) → sizes_from (suc n) m (suc k) ≡ sizes_from n m (suc k) + sizes_from n m k
unfolding sizes_from
sizes_pascal n zero k = refl
sizes_pascal n (suc m) k = omega (arith, length_suc_suc n k, sizes_pascal n m (suc k))

sizes_over : (n m k : ℕ) → n < k → sizes_from n m k ≡ 0
unfolding sizes_from
sizes_over n zero k h = refl
sizes_over n (suc m) k h = omega (arith, length_over n k h, sizes_over n m (suc k) (omega arith))

-- n columns have 2^n sets of at most m members, for every m from n on
pub sizes_sum : (n m : ℕ) → n ≤ m → sizes_from n (suc m) 0 ≡ 2 ^ n
unfolding sizes_from
sizes_sum zero m h = omega (arith, length_none 0, sizes_over 0 m 1 (omega arith))
sizes_sum (suc n) m h =
    let z = ap (λ (j : ℕ). length (of_size n j)) (zero-add m) in
    omega (
      arith,
      sizes_pascal n m 0,
      sizes_snoc n m 0,
      length_none n,
      length_none (suc n),
      length_over n m (omega arith),
      sizes_sum n m (omega arith),
      two-pow-succ n,
    )

length_by_size_from : (n m k : ℕ) → length (by_size_from n m k) ≡ sizes_from n m k
unfolding by_size_from sizes_from
length_by_size_from n zero k = refl
length_by_size_from n (suc m) k =
    let i = length_by_size_from n m (suc k) in
    length-append (of_size n k) (by_size_from n m (suc k)) ∙ rw i refl

-- 2^n sets of n columns
pub length_in_order : (n : ℕ) → length (in_order n) ≡ 2 ^ n
unfolding in_order
length_in_order n = length_by_size_from n (suc n) 0 ∙ sizes_sum n n (omega arith)
