-- The tags of a text from a position on.
use Rattle.std.specs.Prelude.{ℕ, ◌+◌, ◌-◌, ◌≤◌, ◌<◌, ◌≡◌, Bool, ◌&&◌, List, ◌∷◌, eqb, length, drop}
use Rattle.model.specs.Bytes.{byte_at}
use Rattle.model.specs.Xml.{less, row_letter}
use Rattle.model.specs.Form.{number_in, cells_in}
use Rattle.model.specs.Convert.{tags_in}

-- a row's tag begins at i
abbrev pub is_tag : List ℕ → ℕ → Bool
is_tag s i = eqb (byte_at s i) less && eqb (byte_at s (i + 1)) row_letter

-- how many bytes are looked at together
abbrev pub block_bytes : ℕ
block_bytes = 16

-- none of n bytes from i on is `<`
abbrev pub Without : List ℕ → ℕ → ℕ → Type 0
Without s i n = (k : ℕ) → k < n → byte_at s (i + k) ≡ less → ⊥

-- no tag has begun from p to i
pub record Passed (s : List ℕ) (p i : ℕ) : Type 0 where
  pub low : p ≤ i
  pub same : tags_in (drop p s) ≡ tags_in (drop i s)

-- r is where the first `<` from p on stands
pub record NextLess (s : List ℕ) (p r : ℕ) : Type 0 where
  pub low : p ≤ r
  pub within : r < length s
  pub same : tags_in (drop p s) ≡ tags_in (drop r s)
  pub here : byte_at s r ≡ less

-- r is where the first tag from p on has its table's number, with its attributes behind; the tag begins two bytes before
pub record NextTag (s : List ℕ) (p r : ℕ) : Type 0 where
  pub behind : p + 2 ≤ r
  pub within : r ≤ length s
  pub begins : tags_in (drop p s) ≡ tags_in (drop (r - 2) s)
  pub same : tags_in (drop p s) ≡ (number_in (drop r s), cells_in (drop r s)) ∷ tags_in (drop r s)
