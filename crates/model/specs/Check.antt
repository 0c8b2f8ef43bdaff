-- The check of a catalogue: refusals 1 to 7, one definition for each line of the table, tried in the stated order.
use Rattle.std.specs.Prelude.{ℕ, zero, suc, ◌+◌, ◌-◌, ◌*◌, ◌≡◌, List, [], ◌∷◌, length}
use Rattle.columns.specs.Bound.{column_bound}
use Rattle.columns.specs.Test.{if_eq, if_lt, if_le}
use Rattle.model.specs.Bounds.{table_bound, row_bound, smallest_file, no_parent}
use Rattle.model.specs.Refusal.{number, or_else, first_of}
use Rattle.model.specs.Reply.{Reply, reply_of}
use Rattle.model.specs.declared.Refusal.TheVariants.{FileTooShort, BadTrailer, BadExtent, TableTooLarge}
use Rattle.model.specs.declared.Refusal.TheVariants.{BadParentTable, TooManyVisible, BadParentRow}
use Rattle.model.specs.Catalogue.{tables, trailer, table_at, columns, parent, rows, parent_row, table_end, visible}
use Rattle.model.specs.Catalogue.{sets}

-- 1: the file is shorter than the smallest one
unfoldable pub size_code : List ℕ → ℕ
size_code cat = if_lt (length cat) smallest_file (number FileTooShort) 0

-- 2: no table or too many, or the trailer does not end the file
unfoldable pub trailer_code : List ℕ → ℕ
trailer_code cat =
    if_eq (tables cat) 0 (number BadTrailer)
    (if_lt table_bound (tables cat) (number BadTrailer)
    (if_eq (trailer cat + 4 * tables cat + 6) (length cat) 0 (number BadTrailer)))

-- where a table must start: at 0, or at the end of the one before
unfoldable pub start_of : List ℕ → ℕ → ℕ
start_of cat zero = 0
start_of cat (suc table) = table_end cat table

-- 3: the table's offset is not there, or its first 6 bytes pass the trailer's first byte
unfoldable pub head_code : List ℕ → ℕ → ℕ
head_code cat table = if_eq (table_at cat table) (start_of cat table)
    (if_le (table_at cat table + 6) (trailer cat) 0 (number BadExtent)) (number BadExtent)

-- 4: too many columns or rows
unfoldable pub bound_code : List ℕ → ℕ → ℕ
bound_code cat table =
    if_lt column_bound (columns cat table) (number TableTooLarge)
    (if_lt row_bound (rows cat table) (number TableTooLarge) 0)

-- 5: the root has a parent table, or another's is not a lower-numbered one
unfoldable pub parent_code : List ℕ → ℕ → ℕ
parent_code cat table =
    if_eq table 0 (if_eq (parent cat table) no_parent 0 (number BadParentTable))
    (if_lt (parent cat table) table 0 (number BadParentTable))

-- 6: too many visible columns
unfoldable pub width_code : List ℕ → ℕ → ℕ
width_code cat table = if_lt column_bound (visible cat table) (number TooManyVisible) 0

-- 3: the rows pass the trailer's first byte
unfoldable pub extent_code : List ℕ → ℕ → ℕ
extent_code cat table = if_le (table_end cat table) (trailer cat) 0 (number BadExtent)

-- 7: a root row has a parent row, or another's is not below the parent table's rows
unfoldable pub row_code : List ℕ → ℕ → ℕ → ℕ
row_code cat table k =
    if_eq table 0 (if_eq (parent_row cat table k) no_parent 0 (number BadParentRow))
    (if_lt (parent_row cat table k) (rows cat (parent cat table)) 0 (number BadParentRow))

-- one table: offset and 6 bytes, then 4, 5, 6, the rows' extent, and each row
unfoldable pub table_code : List ℕ → ℕ → ℕ
table_code cat table =
    or_else (head_code cat table)
    (or_else (bound_code cat table)
    (or_else (parent_code cat table)
    (or_else (width_code cat table) (or_else (extent_code cat table) (first_of (rows cat table) 0 (row_code cat table))))))

-- 3: bytes are left after the last table
unfoldable pub left_code : List ℕ → ℕ
left_code cat = if_eq (table_end cat (tables cat - 1)) (trailer cat) 0 (number BadExtent)

-- the first ground against the catalogue: 1 and 2, then table by table, then left bytes
unfoldable pub check_code : List ℕ → ℕ
check_code cat =
    or_else (size_code cat) (or_else (trailer_code cat) (or_else (first_of (tables cat) 0 (table_code cat)) (left_code cat)))

-- the bytes are an accepted catalogue
abbrev pub Accepted : List ℕ → Type 0
Accepted cat = check_code cat ≡ 0

-- what checking the bytes replies
unfoldable pub check_meaning : List ℕ → Reply
check_meaning cat = reply_of (check_code cat) (tables cat ∷ sets cat ∷ [])
