-- When what some tables hold is sound: the lines of the table of refusals 2 and 4 to 7, said of the contents.
use Rattle.std.specs.Prelude.{ℕ, zero, suc, ◌+◌, ◌≤◌, ◌<◌, ◌≡◌, List, [], length, get_or}
use Rattle.columns.specs.Bound.{column_bound}
use Rattle.columns.specs.Test.{if_eq}
use Rattle.model.specs.Bounds.{table_bound, row_bound, no_parent}
use Rattle.model.specs.Catalogue.{tables, columns, parent}
use Rattle.model.specs.Encode.{Content, content}

-- table i and row k, and what stands for one that is not there
abbrev pub table_of : List Content → ℕ → Content
table_of ts i = get_or ts i (content 0 0 [])

abbrev pub row_in : Content → ℕ → ℕ × List ℕ
row_in t k = get_or t.rows k (0, [])

-- the visible columns of a table, counted as in a catalogue
unfoldable pub visible_from : List Content → ℕ → ℕ → ℕ
visible_from ts zero i = 0
visible_from ts (suc n) i = (table_of ts i).columns + if_eq i 0 0 (visible_from ts n (table_of ts i).parent)

unfoldable pub visible_of : List Content → ℕ → ℕ
visible_of ts i = visible_from ts table_bound i

-- the rows of table i: not too many, a code of 4 bytes for each column, and a parent row that is there
pub record SoundRows (ts : List Content) (i : ℕ) (t : Content) : Type 0 where
  pub few : length t.rows ≤ row_bound
  pub even : (k : ℕ) → k < length t.rows → length (row_in t k).1 ≡ t.columns
  pub small : (k c : ℕ) → k < length t.rows → c < t.columns → get_or (row_in t k).1 c 0 < 4294967296
  pub root : i ≡ 0 → (k : ℕ) → k < length t.rows → (row_in t k).0 ≡ no_parent
  pub below : 0 < i → (k : ℕ) → k < length t.rows → (row_in t k).0 < length (table_of ts t.parent).rows

-- table i: not too many columns, a parent table that is lower-numbered, and its rows
pub record SoundTable (ts : List Content) (i : ℕ) (t : Content) : Type 0 where
  pub narrow : t.columns ≤ column_bound
  pub root : i ≡ 0 → t.parent ≡ no_parent
  pub below : 0 < i → t.parent < i
  pub lines : SoundRows ts i t

-- all tables: there is one, there are not too many, and none has too many visible columns
pub record Sound (ts : List Content) : Type 0 where
  pub some : 0 < length ts
  pub few : length ts ≤ table_bound
  pub each : (i : ℕ) → i < length ts → SoundTable ts i (table_of ts i)
  pub narrow : (i : ℕ) → i < length ts → visible_of ts i ≤ column_bound

-- the tables are those of a catalogue, but for their rows
pub record Shaped (shape : List ℕ) (ts : List Content) : Type 0 where
  pub count : tables shape ≡ length ts
  pub columns_same : (i : ℕ) → i < length ts → (table_of ts i).columns ≡ columns shape i
  pub parent_same : (i : ℕ) → i < length ts → (table_of ts i).parent ≡ parent shape i
