-- The right sides of a target ("Agreement"): some of its members, and the row. A mask says which: where there are n
-- members, bit k stands for member k, and bit n for the row.
use Rattle.std.specs.Prelude.{ℕ, zero, suc, List, [], ◌∷◌}
use Rattle.columns.specs.Test.{if_eq, pick}
use Rattle.model.specs.Bounds.{row}
use Rattle.model.specs.View.{is_in}

-- the right side that bit k stands for, of n members
unfoldable pub right_at : ℕ → ℕ → ℕ
right_at n k = if_eq k n row k

-- those of a mask from bit k on, j bits in all
unfoldable pub rights_from : ℕ → ℕ → ℕ → ℕ → List ℕ
rights_from n mask zero k = []
rights_from n mask (suc j) k =
    pick (is_in k mask) (right_at n k ∷ rights_from n mask j (suc k)) (rights_from n mask j (suc k))

-- all of a mask: ascending, and the row last
unfoldable pub rights_in : ℕ → ℕ → List ℕ
rights_in n mask = rights_from n mask (suc n) 0
