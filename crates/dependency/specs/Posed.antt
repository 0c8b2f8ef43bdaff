-- A question that is not refused, and the members that it looks at.
use Rattle.std.specs.Prelude.{ℕ, ◌^◌, ◌<◌, ◌≡◌, List}
use Rattle.std.specs.Int.Bits.{bit_or}
use Rattle.columns.specs.Test.{if_eq}
use Rattle.model.specs.Bounds.{row}
use Rattle.model.specs.Catalogue.{tables, visible}
use Rattle.model.specs.Check.{Accepted}

-- what a question that is not refused says of the target t, the left side x and the right side a
pub record Posed (cat : List ℕ) (t x a : ℕ) : Type 0 where
  pub accepted : Accepted cat
  pub target : t < tables cat
  pub left : x < 2 ^ visible cat t
  pub right : (a ≡ row → ⊥) → a < visible cat t

-- the members that it looks at: those of the left side, and the right side where it is a column
unfoldable pub members_asked : ℕ → ℕ → ℕ
members_asked x a = if_eq a row x (bit_or x (2 ^ a))

-- the bit that stands for the right side, of n members: its own, or the one above them all for the row
unfoldable pub right_bit : ℕ → ℕ → ℕ
right_bit n a = if_eq a row n a
