-- Entries and their order ("Order and places"): by target, then left sides by size and number, then rights by number,
-- the row last. The number of the row, 255, is above every column's, so rights go by number throughout.
use Rattle.std.specs.Prelude.{ℕ, ◌<◌, ◌≡◌, ◌⊎◌, Bool, ◌&&◌, ◌||◌, ltb, eqb}
use mathlib.Core.List.{List, [], ◌∷◌, Memᴰ}
use Rattle.columns.specs.Set.{size_of}
use Rattle.columns.specs.Order.{Precedes}
use Rattle.model.specs.declared.Entry.{Entry}

abbrev pub entry : ℕ → ℕ → ℕ → Entry
entry target left right = record { target = target; right = right; left = left }

-- e stands before f
abbrev pub Earlier : Entry → Entry → Type 0
Earlier e f =
    (e.target < f.target)
    ⊎ ((e.target ≡ f.target)
    × (Precedes e.left f.left ⊎ ((e.left ≡ f.left) × (e.right < f.right))))

-- the test of a lexicographic order: below on the first number, or equal there and below on the rest
abbrev pub then_below : ℕ → ℕ → Bool → Bool
then_below m n rest = ltb m n || (eqb m n && rest)

unfoldable pub earlier : Entry → Entry → Bool
earlier e f =
    then_below e.target f.target
    (then_below (size_of e.left) (size_of f.left) (then_below e.left f.left (ltb e.right f.right)))

-- each element stands before every later one
abbrev pub Ordered : List Entry → Type 0
Ordered [] = Unit {0}
Ordered (e ∷ es) = ((f : Entry) → Memᴰ f es → Earlier e f) × Ordered es

-- each element stands once
abbrev pub Once : List Entry → Type 0
Once [] = Unit {0}
Once (e ∷ es) = (Memᴰ e es → ⊥) × Once es
