-- What ends a tag, and words without a byte.
use Rattle.std.specs.Prelude.{ℕ, ◌≡◌, false, List, [], ◌∷◌, eqb}
use Rattle.model.specs.Xml.{slash, greater}

-- a text begins with `>` or with `/>`
pub data TagEnd : List ℕ → Type 0 where
  by_greater : (r : List ℕ) → TagEnd (greater ∷ r)
  by_slash : (r : List ℕ) → TagEnd (slash ∷ greater ∷ r)

-- the byte y does not stand in a word
abbrev pub Without : ℕ → List ℕ → Type 0
Without y [] = Unit {0}
Without y (x ∷ l) = (eqb x y ≡ false) × Without y l
