-- The line of a row: a number for each row after it, which by all members is their agree set.
use Rattle.std.specs.Prelude.{ℕ, ◌+◌, ◌*◌, ◌^◌, ◌<◌, ◌≡◌, Bool, ◌&&◌, List, eqb, ltb, length}
use Rattle.std.specs.Int.Bits.{bit_or}
use Rattle.columns.specs.Set.{bit, set_below}
use Rattle.columns.specs.Test.{pick}
use Rattle.model.specs.Bounds.{row_bound}
use Rattle.table.specs.Words.{word}
use Rattle.leaders.specs.Keys.{key_at}
use Rattle.classes.specs.Classes.{number_at}

-- the 2-byte numbers of a line have a bit for so many members, and those of a part for so many
abbrev pub line_members : ℕ
line_members = 16

abbrev pub part_members : ℕ
part_members = 8

-- a line has the numbers of f at the rows after x, up to the end
pub record LineOf (f : ℕ → ℕ) (x end : ℕ) (line : List ℕ) : Type 0 where
  pub long : length line ≡ row_bound
  pub at : (q : ℕ) → x < q → q < end → word line q ≡ f q

-- is member k numbered, and have rows x and q the same number there?
abbrev pub same_number : List ℕ → ℕ → ℕ → ℕ → ℕ → Bool
same_number bytes few x q k = eqb (bit few k) 1 && eqb (number_at bytes k x) (number_at bytes k q)

-- such members from v on, as a part of the line of row x has them at row q; and all of them
abbrev pub part_at : List ℕ → ℕ → ℕ → ℕ → ℕ → ℕ
part_at bytes few x v q = set_below part_members (λ j. same_number bytes few x q (v + j))

abbrev pub numbered_at : List ℕ → ℕ → ℕ → ℕ → ℕ
numbered_at bytes few x q = set_below line_members (same_number bytes few x q)

-- two parts joined, the high one with a weight
abbrev pub joined_at : ℕ → List ℕ → List ℕ → ℕ → ℕ
joined_at weight low high q = word low q + weight * word high q

-- a line with member k at the rows that have the key of x there
abbrev pub with_member : List ℕ → ℕ → ℕ → List ℕ → ℕ → ℕ
with_member keys k x line q = bit_or (word line q) (pick (eqb (key_at keys k x) (key_at keys k q)) (2 ^ k) 0)

-- the members on which rows x and q are found to agree once those below m are looked at by keys: by numbers, or by
-- keys where there is no number
abbrev pub met : List ℕ → List ℕ → ℕ → ℕ → ℕ → ℕ → ℕ → Bool
met keys bytes few m x q k =
    pick (eqb (bit few k) 1) (eqb (number_at bytes k x) (number_at bytes k q))
    (ltb k m && eqb (key_at keys k x) (key_at keys k q))

abbrev pub met_at : List ℕ → List ℕ → ℕ → ℕ → ℕ → ℕ → ℕ
met_at keys bytes few m x q = set_below line_members (met keys bytes few m x q)
