-- How many sets there are of each size (document 02 c): rows of Pascal's numbers, as the code works them out.
use Rattle.std.specs.Prelude.{ℕ, suc, ◌+◌, ◌^◌, ◌≤◌, ◌≡◌, List, [], ◌∷◌, length, get_or}
use Rattle.columns.specs.Bound.{column_bound}
use Rattle.columns.specs.Order.{of_size}

-- the numbers of a row, added up
unfoldable pub total : List ℕ → ℕ
total [] = 0
total (x ∷ xs) = x + total xs

-- the row has a number for each size up to the bound: how many sets of n columns have that size, as they stand in
-- listing order. Together they are all sets of n columns
pub record Counts (n : ℕ) (row : List ℕ) : Type 0 where
  pub sizes : length row ≡ suc column_bound
  pub numbers : (k : ℕ) → get_or row k 0 ≡ length (of_size n k)
  pub sum : total row ≡ 2 ^ n

-- a row for no column, for one, and on to n columns
pub record CountsUpTo (n : ℕ) (rows : List (List ℕ)) : Type 0 where
  pub columns : length rows ≡ suc column_bound
  pub row : (m : ℕ) → m ≤ n → Counts m (get_or rows m [])
