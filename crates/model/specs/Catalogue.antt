-- The catalogue is its bytes ("The catalogue file"): what stands where. Nothing here asks that the bytes are sound.
use Rattle.std.specs.Prelude.{ℕ, zero, suc, ◌+◌, ◌-◌, ◌*◌, ◌^◌, List, length}
use Rattle.columns.specs.Test.{if_eq}
use Rattle.model.specs.Bounds.{table_bound}
use Rattle.model.specs.Bytes.{u16_at, u32_at}

-- the trailer ends the file: an offset for each table, the number of tables, the offset of the trailer's first byte
unfoldable pub tables : List ℕ → ℕ
tables cat = u16_at cat (length cat - 6)

unfoldable pub trailer : List ℕ → ℕ
trailer cat = u32_at cat (length cat - 4)

unfoldable pub table_at : List ℕ → ℕ → ℕ
table_at cat table = u32_at cat (trailer cat + 4 * table)

-- a table: columns, parent table, rows, and then its rows
unfoldable pub columns : List ℕ → ℕ → ℕ
columns cat table = u16_at cat (table_at cat table)

unfoldable pub parent : List ℕ → ℕ → ℕ
parent cat table = u16_at cat (table_at cat table + 2)

unfoldable pub rows : List ℕ → ℕ → ℕ
rows cat table = u16_at cat (table_at cat table + 4)

-- a row: its parent row and a code for each column
unfoldable pub row_at : List ℕ → ℕ → ℕ → ℕ
row_at cat table k = table_at cat table + 6 + k * (2 + 4 * columns cat table)

unfoldable pub parent_row : List ℕ → ℕ → ℕ → ℕ
parent_row cat table k = u16_at cat (row_at cat table k)

unfoldable pub cell : List ℕ → ℕ → ℕ → ℕ → ℕ
cell cat table k c = u32_at cat (row_at cat table k + 2 + 4 * c)

-- the first byte after a table's rows
unfoldable pub table_end : List ℕ → ℕ → ℕ
table_end cat table = row_at cat table (rows cat table)

-- the visible columns of a table are its ancestors', root first, and then its own: how many, climbing n tables at most
unfoldable pub visible_in : List ℕ → ℕ → ℕ → ℕ
visible_in cat zero table = 0
visible_in cat (suc n) table = columns cat table + if_eq table 0 0 (visible_in cat n (parent cat table))

unfoldable pub visible : List ℕ → ℕ → ℕ
visible cat table = visible_in cat table_bound table

-- how many of them the ancestors have, which is the visible number of the first own column
unfoldable pub inherited : List ℕ → ℕ → ℕ
inherited cat table = visible cat table - columns cat table

-- the sets over n targets from a table on, and over all targets
unfoldable pub sets_from : List ℕ → ℕ → ℕ → ℕ
sets_from cat zero table = 0
sets_from cat (suc n) table = 2 ^ visible cat table + sets_from cat n (suc table)

unfoldable pub sets : List ℕ → ℕ
sets cat = sets_from cat (tables cat) 0
