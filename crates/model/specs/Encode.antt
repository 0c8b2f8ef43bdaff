-- The encoder of catalogues ("The catalogue file"): the bytes of some tables, one after the other, and the trailer. Its
-- parts also make the files that are no catalogues.
use Rattle.std.specs.Prelude.{ℕ, ◌+◌, List, [], ◌∷◌, ◌++◌, length}
use Rattle.model.specs.Bytes.{bytes2, bytes4}

-- a table's first 6 bytes: columns, parent table, rows
unfoldable pub head_of : ℕ → ℕ → ℕ → List ℕ
head_of columns parent rows = bytes2 columns ++ bytes2 parent ++ bytes2 rows

-- a row: its parent row and its codes
unfoldable pub codes_of : List ℕ → List ℕ
codes_of [] = []
codes_of (c ∷ cs) = bytes4 c ++ codes_of cs

unfoldable pub row_of : ℕ → List ℕ → List ℕ
row_of parent codes = bytes2 parent ++ codes_of codes

-- the trailer: the tables' offsets, how many, and its own offset
unfoldable pub trailer_of : List ℕ → ℕ → ℕ → List ℕ
trailer_of offsets tables at = codes_of offsets ++ bytes2 tables ++ bytes4 at

-- what a table holds: how many columns, its parent table, and for each row its parent row and its codes
pub record Content : Type 0 where
  pub columns : ℕ
  pub parent : ℕ
  pub rows : List (ℕ × List ℕ)

abbrev pub content : ℕ → ℕ → List (ℕ × List ℕ) → Content
content columns parent rows = record { columns = columns; parent = parent; rows = rows }

unfoldable pub rows_bytes : List (ℕ × List ℕ) → List ℕ
rows_bytes [] = []
rows_bytes (r ∷ rs) = row_of r.0 r.1 ++ rows_bytes rs

unfoldable pub table_bytes : Content → List ℕ
table_bytes t = head_of t.columns t.parent (length t.rows) ++ rows_bytes t.rows

unfoldable pub tables_bytes : List Content → List ℕ
tables_bytes [] = []
tables_bytes (t ∷ ts) = table_bytes t ++ tables_bytes ts

-- where each table starts, the first at an offset
unfoldable pub starts_from : ℕ → List Content → List ℕ
starts_from at [] = []
starts_from at (t ∷ ts) = at ∷ starts_from (at + length (table_bytes t)) ts

-- the catalogue of some tables, the root first
unfoldable pub encode : List Content → List ℕ
encode ts = tables_bytes ts ++ trailer_of (starts_from 0 ts) (length ts) (length (tables_bytes ts))
