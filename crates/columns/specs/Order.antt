-- The listing order of the sets of n columns ("Order and places"): by size, then by their number.
use Rattle.std.specs.Prelude.{ℕ, zero, suc, ◌+◌, ◌^◌, ◌<◌, ◌≡◌, Bool, true, false, ◌⊎◌, ltb, Option, Some, None}
use mathlib.Core.List.{List, [], ◌∷◌, ◌++◌, Memᴰ}
use Rattle.columns.specs.Bound.{column_bound}
use Rattle.columns.specs.Test.{if_eq, if_lt, if_le}
use Rattle.columns.specs.Set.{size_of, set_of}
use Rattle.columns.specs.declared.ColumnSet.{ColumnSet}

-- x stands before y: it is smaller, or as large and its number is below
abbrev pub Precedes : ℕ → ℕ → Type 0
Precedes x y = (size_of x < size_of y) ⊎ ((size_of x ≡ size_of y) × (x < y))

-- the same as a test
unfoldable pub precedes_of : ℕ → ℕ → Bool
precedes_of x y = if_lt (size_of x) (size_of y) true (if_eq (size_of x) (size_of y) (ltb x y) false)

-- a list in that order: each element precedes every later one
abbrev pub Ordered : List ℕ → Type 0
Ordered [] = Unit {0}
Ordered (x ∷ xs) = ((y : ℕ) → Memᴰ y xs → Precedes x y) × Ordered xs

-- a list with each element once: none is among the later ones
abbrev pub Once : List ℕ → Type 0
Once [] = Unit {0}
Once (x ∷ xs) = (Memᴰ x xs → ⊥) × Once xs

-- of the numbers from x on, m in all, those with k bits, ascending
unfoldable pub of_size_from : ℕ → ℕ → ℕ → List ℕ
of_size_from k zero x = []
of_size_from k (suc m) x = if_eq (size_of x) k (x ∷ of_size_from k m (suc x)) (of_size_from k m (suc x))

-- the sets of n columns with k members, by their number
unfoldable pub of_size : ℕ → ℕ → List ℕ
of_size n k = of_size_from k (2 ^ n) 0

-- the sets of n columns with k members, then those with k + 1, and on for m sizes
unfoldable pub by_size_from : ℕ → ℕ → ℕ → List ℕ
by_size_from n zero k = []
by_size_from n (suc m) k = of_size n k ++ by_size_from n m (suc k)

-- all sets of n columns in listing order
unfoldable pub in_order : ℕ → List ℕ
in_order n = by_size_from n (suc n) 0

-- what stands first in a list, and what stands right after x in it
unfoldable pub first : List ℕ → Option ColumnSet
first [] = None
first (y ∷ ys) = Some (set_of y)

unfoldable pub after : ℕ → List ℕ → Option ColumnSet
after x [] = None
after x (y ∷ ys) = if_eq x y (first ys) (after x ys)

-- the next set in listing order: 'none' after the full set, for a set with a member at or above n, and for n over
-- the bound
unfoldable pub next_of : ℕ → ℕ → Option ColumnSet
next_of n x = if_le n column_bound (after x (in_order n)) None

-- the set at an index of the order: 'none' at or past 2^n, and for n over the bound
unfoldable pub nth : List ℕ → ℕ → Option ColumnSet
nth [] i = None
nth (y ∷ ys) zero = Some (set_of y)
nth (y ∷ ys) (suc i) = nth ys i

unfoldable pub at_of : ℕ → ℕ → Option ColumnSet
at_of n i = if_le n column_bound (nth (in_order n) i) None
