-- A word stands in a text from one position to another; attributes that may be there twice; a reader that goes on.
use Rattle.std.specs.Prelude.{ℕ, ◌+◌, ◌≤◌, ◌<◌, ◌≡◌, Bool, true, List, [], ◌∷◌, ◌++◌, length, drop}
use Rattle.model.specs.Forest.{Cells}
use Rattle.model.specs.Xml.{Attribute}

-- the word w stands in the text s from p to q
pub record Stands (s : List ℕ) (p : ℕ) (w : List ℕ) (q : ℕ) : Type 0 where
  pub end : q ≡ p + length w
  pub within : q ≤ length s
  pub text : drop p s ≡ w ++ drop q s

-- attributes one after the other, of which none is tested against the others
pub data Loose : List ℕ → Cells → Type 0 where
  no_more : Loose [] []
  one_more : {a l : List ℕ} {column value : ℕ} {cells : Cells} → Attribute a column value → Loose l cells
      → Loose (a ++ l) ((column, value) ∷ cells)

-- where there is more, that is inside the text, and a reader that reads it goes on
pub record GoesOn (s : List ℕ) (more : ℕ → Bool) (f : ℕ → ℕ) : Type 0 where
  pub inside : (p : ℕ) → more p ≡ true → p < length s
  pub onward : (p r : ℕ) → more p ≡ true → f p ≡ r → (r ≡ 0 → ⊥) → p < r
