-- The attributes of a tag one after the other: what the functions of this crate promise each other.
use Rattle.std.specs.Prelude.{ℕ, ◌≤◌, ◌<◌, ◌≡◌, Bool, true, false, ◌&&◌, not, List, [], ◌∷◌, length, drop, get_or}
use Rattle.columns.specs.Bound.{column_bound}
use Rattle.model.specs.Bounds.{missing}
use Rattle.model.specs.Forest.{Cells, value_or}
use Rattle.model.specs.Form.{number_in, capped, quoted_in, cells_in, is_distinct}

-- the attribute whose name stands at p, and those of the tag from there on
abbrev pub cells_at : List ℕ → ℕ → Cells
cells_at s p = (number_in (drop p s), capped (quoted_in (drop p s))) ∷ cells_in (drop p s)

-- the name of the next attribute of the tag from p on stands at r
pub record NextAttribute (s : List ℕ) (p r : ℕ) : Type 0 where
  pub behind : p < r
  pub within : r ≤ length s
  pub same : cells_in (drop p s) ≡ cells_at s r

-- none of the attributes was seen
unfoldable pub unseen : List Bool → Cells → Bool
unseen seen [] = true
unseen seen (c ∷ cs) = not (get_or seen c.0 false) && unseen seen cs

-- none was seen, and none is there twice
unfoldable pub distinct_beside : List Bool → Cells → Bool
distinct_beside seen cs = is_distinct cs && unseen seen cs

-- The attribute whose name stands at p is seen or comes again, or else those behind it decide, with what is seen then.
pub record Noted (s : List ℕ) (p : ℕ) (seen after : List Bool) (again : Bool) : Type 0 where
  pub same_length : length after ≡ length seen
  pub decides : distinct_beside seen (cells_at s p) ≡ not again && distinct_beside after (cells_in (drop p s))

-- the codes of the columns by the attributes
pub record Codes (cells : Cells) (codes : List ℕ) : Type 0 where
  pub size : length codes ≡ column_bound
  pub each : (k : ℕ) → k < column_bound → get_or codes k 0 ≡ value_or k missing cells
