-- What is listed: of a target's view, a left and a right side (document 02, d and e). In the words of the document, and
-- beside it the test that computes; proofs/Listed.antt shows that the two say the same. Every listing goes by this one
-- definition.
use Rattle.std.specs.Prelude.{ℕ, ◌<◌, ◌≡◌, ◌⊎◌, Bool, not, ◌&&◌, ◌||◌, eqb}
use Rattle.model.specs.Bounds.{row}
use Rattle.model.specs.View.{View, In, Within, Holds, Key, holds, Minimal, minimal, Backed, backed}

-- a dependency or key is listed if its left side is backed, it is minimal, and its right is the row or its left is no
-- key: where the left is a key, the entry with a column on the right is dropped
pub record Listed (v : View) (x a : ℕ) : Type 0 where
  pub backed : Backed v x
  pub minimal : Minimal v x a
  pub undropped : (a ≡ row) ⊎ (Key v x → ⊥)

unfoldable pub listed : View → ℕ → ℕ → Bool
listed v x a = backed v x && (minimal v x a && (eqb a row || not (holds v x row)))

-- minimal among the backed lefts: no backed left within it that lacks one of its members holds. Of a backed left side
-- this says the same as minimal (proofs/Listed.antt)
pub record LeastBacked (v : View) (x a : ℕ) : Type 0 where
  pub holds : Holds v x a
  pub outside : In a x → ⊥
  pub least : (y : ℕ) → Backed v y → Within v y x → (k : ℕ) → k < v.members → In k x → (In k y → ⊥) → Holds v y a
      → ⊥
