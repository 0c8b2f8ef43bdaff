-- One column of a table, by where it stands: the code of row x is the 4-byte number x widths on from the column's
-- first. The rows of a target are compared on it by the rows of the table that they lead to.
use Rattle.std.specs.Prelude.{ℕ, ◌+◌, ◌*◌, ◌≤◌, ◌<◌, ◌≡◌, List, Bool, eqb, length, get_or}
use Rattle.columns.specs.Test.{if_eq}
use Rattle.model.specs.Bounds.{row_bound, missing}
use Rattle.model.specs.Bytes.{u32_at}
use Rattle.model.specs.View.{In}
use Rattle.model.specs.Target.{cells_agree}
use Rattle.model.specs.First.{first_from}
use Rattle.leaders.specs.Keys.{key_at}

-- the code of row x
abbrev pub code_of : List ℕ → ℕ → ℕ → ℕ → ℕ
code_of cat from width x = u32_at cat (from + x * width)

-- rows p and q of the target agree: by the rows reached and their codes
unfoldable pub agree_by : List ℕ → ℕ → ℕ → List ℕ → ℕ → ℕ → Bool
agree_by cat from width reached p q =
    let x = get_or reached p 0 in
    let y = get_or reached q 0 in
    cells_agree x y (code_of cat from width x) (code_of cat from width y)

-- the lowest row that agrees with q
unfoldable pub leader_by : List ℕ → ℕ → ℕ → List ℕ → ℕ → ℕ
leader_by cat from width reached q = first_from (λ p. agree_by cat from width reached p q) q 0

-- the word of row x with a code: the code, and beyond all codes the row itself where the cell is missing. Two rows of
-- a table agree exactly if their words are equal
unfoldable pub cell_word : ℕ → ℕ → ℕ
cell_word code x = if_eq code missing (missing + 1 + x) code

-- a word for each row of the target, equal exactly where the rows agree
pub record AgreeWords (cat : List ℕ) (from width : ℕ) (reached : List ℕ) (end : ℕ) (words : List ℕ) : Type 0 where
  pub long : length words ≡ row_bound
  pub same : (p q : ℕ) → p < end → q < end → eqb (get_or words p 0) (get_or words q 0) ≡ agree_by cat from width reached p q

-- of a table that starts at byte o and has c columns, the first of them member low: the keys of the columns from j on
-- that are in the set are laid, and those of higher members are as before
pub record LaidTable (cat : List ℕ) (o c low : ℕ) (reached : List ℕ) (end set j : ℕ) (before after : List ℕ) : Type
    0 where
  pub same_length : length after ≡ length before
  pub laid : (i q : ℕ) → j ≤ i → i < c → In (low + i) set → q < end
      → key_at after (low + i) q ≡ leader_by cat (o + 8 + 4 * i) (2 + 4 * c) reached q
  pub kept : (k q : ℕ) → low + c ≤ k → key_at after k q ≡ key_at before k q
