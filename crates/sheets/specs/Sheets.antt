-- The parts of a converted text, by what is at hand while it is written: the number and the attributes of a tag, and
-- how many rows each table has.
use Rattle.std.specs.Prelude.{ℕ, zero, suc, ◌+◌, ◌*◌, ◌≤◌, ◌<◌, List, [], ◌∷◌, get_or}
use Rattle.columns.specs.Test.{if_eq}
use Rattle.model.specs.Bounds.{row_bound}
use Rattle.model.specs.Catalogue.{tables, columns}
use Rattle.model.specs.Encode.{row_of}
use Rattle.model.specs.Forest.{Cells, codes_from}
use Rattle.encoding.specs.Sizes.{size_of}

-- how many rows of the parent table stand before what follows a tag of table n
unfoldable pub seen_after : ℕ → ℕ → ℕ → ℕ → ℕ
seen_after above table n seen = if_eq n table seen (if_eq n above (suc seen) seen)

-- the bytes of the row of a tag of table n, where that is the table
unfoldable pub bytes_for : ℕ → ℕ → ℕ → ℕ → Cells → List ℕ
bytes_for c table up n cells = if_eq n table (row_of up (codes_from c 0 cells)) []

-- a table that is not too large has no more bytes, whatever its columns
abbrev pub table_room : ℕ
table_room = 2147483648

-- a table's bytes, by the counts
unfoldable pub size_in : List ℕ → List ℕ → ℕ → ℕ
size_in shape counts table = size_of (columns shape table) (get_or counts table 0)

-- those of n tables from one on; and where each starts, the first at an offset
unfoldable pub sizes_in : List ℕ → List ℕ → ℕ → ℕ → ℕ
sizes_in shape counts zero table = 0
sizes_in shape counts (suc n) table = size_in shape counts table + sizes_in shape counts n (suc table)

unfoldable pub starts_in : List ℕ → List ℕ → ℕ → ℕ → ℕ → List ℕ
starts_in shape counts zero table at = []
starts_in shape counts (suc n) table at =
    at ∷ starts_in shape counts n (suc table) (at + size_in shape counts table)

-- the bytes of the whole file
unfoldable pub file_size : List ℕ → List ℕ → ℕ
file_size shape counts = sizes_in shape counts (tables shape) 0 + 4 * tables shape + 6

-- no table of the shape has too many rows
abbrev pub Few : List ℕ → List ℕ → Type 0
Few shape counts = (t : ℕ) → t < tables shape → get_or counts t 0 ≤ row_bound
