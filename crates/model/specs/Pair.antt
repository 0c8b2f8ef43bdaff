-- The first pair of rows that break a dependency (document 02, a): lowest first row, then lowest second row. In these
-- words, and beside them a function that computes; proofs/Pair.antt shows that the two say the same, that there is
-- such a pair exactly if the dependency does not hold, and only one.
use Rattle.std.specs.Prelude.{ℕ, ◌<◌, List, [], ◌∷◌, ltb}
use Rattle.columns.specs.Test.{if_lt}
use Rattle.model.specs.First.{first_from}
use Rattle.model.specs.View.{View, Breaks, breaks}

pub record FirstPair (v : View) (x a p q : ℕ) : Type 0 where
  -- it breaks
  pub breaking : Breaks v x a p q
  -- no breaking pair has a lower first row
  pub lowest_first : (m n : ℕ) → Breaks v x a m n → m < p → ⊥
  -- none with that first row has a lower second
  pub lowest_second : (n : ℕ) → Breaks v x a p n → n < q → ⊥

-- the lowest second row of the breaking pairs whose first row is p, or the number of rows where there is none
unfoldable pub second_row : View → ℕ → ℕ → ℕ → ℕ
second_row v x a p = first_from (breaks v x a p) v.rows 0

-- the lowest first row of the breaking pairs, or the number of rows where there is none
unfoldable pub first_row : View → ℕ → ℕ → ℕ
first_row v x a = first_from (λ p. ltb (second_row v x a p) v.rows) v.rows 0

-- the two rows, or none
unfoldable pub first_pair : View → ℕ → ℕ → List ℕ
first_pair v x a = if_lt (first_row v x a) v.rows (first_row v x a ∷ second_row v x a (first_row v x a) ∷ []) []
