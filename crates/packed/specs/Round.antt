-- The round trips of packed lists, both ways, and how many entries a list may have.
use Rattle.std.specs.Prelude.{ℕ, suc, ◌*◌, ◌^◌, ◌≡◌, List, ◌++◌}
use Rattle.columns.specs.Bound.{column_bound}
use Rattle.model.specs.Bounds.{table_bound}
use Rattle.model.specs.Entries.{entries_code}
use Rattle.model.specs.Packing.{packed}
use Rattle.model.specs.Reading.{entries_held, front_of, read_code}
use Rattle.model.specs.declared.Entry.{Entry}

-- a packed list behind any front is accepted, and is read as its entries and its front
pub record ReadsBack (front : List ℕ) (es : List Entry) : Type 0 where
  pub accepted : read_code (front ++ packed es) ≡ 0
  pub entries : entries_held (front ++ packed es) ≡ es
  pub before : front_of (front ++ packed es) ≡ front

-- the entries read from a list have no ground, and with the front pack into its bytes
pub record PacksBack (file : List ℕ) : Type 0 where
  pub accepted : entries_code (entries_held file) ≡ 0
  pub bytes : front_of file ++ packed (entries_held file) ≡ file

-- how many left sides there are, how many rights with the row, and so how many entries may stand in a list
abbrev pub left_sides : ℕ
left_sides = 2 ^ column_bound

abbrev pub right_sides : ℕ
right_sides = suc column_bound

abbrev pub ranks : ℕ
ranks = table_bound * (left_sides * right_sides)
