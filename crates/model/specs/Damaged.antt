-- Damaged catalogues, one for each ground of the refusals 1 to 7, and all grounds in each: wherever a small file has it
-- so, the one that it is refused for is the only one. Then files at the bounds, which are accepted, and files with
-- several faults, for the order of refusals.
use Rattle.std.specs.Prelude.{ℕ, zero, suc, ◌+◌, ◌*◌, ◌≡◌, List, [], ◌∷◌, ◌++◌, take, replicate}
use Rattle.columns.specs.Test.{if_eq}
use Rattle.model.specs.Bounds.{no_parent}
use Rattle.model.specs.Bytes.{bytes2, bytes4}
use Rattle.model.specs.Refusal.{first_of}
use Rattle.model.specs.Catalogue.{tables, rows}
use Rattle.model.specs.Check.{Accepted, check_code, size_code, trailer_code, head_code, bound_code, parent_code}
use Rattle.model.specs.Check.{width_code, extent_code, row_code, left_code}
use Rattle.model.specs.Encode.{head_of, row_of, trailer_of}

-- every ground in a file, in the order of the check: not only the first
unfoldable pub grounds_from : List ℕ → ℕ → ℕ → List ℕ
grounds_from cat zero table = left_code cat ∷ []
grounds_from cat (suc n) table =
    head_code cat table ∷ bound_code cat table ∷ parent_code cat table ∷ width_code cat table ∷ extent_code cat table
    ∷ first_of (rows cat table) 0 (row_code cat table) ∷ grounds_from cat n (suc table)

unfoldable pub not_zero : List ℕ → List ℕ
not_zero [] = []
not_zero (c ∷ cs) = if_eq c 0 (not_zero cs) (c ∷ not_zero cs)

unfoldable pub grounds : List ℕ → List ℕ
grounds cat = not_zero (size_code cat ∷ trailer_code cat ∷ grounds_from cat (tables cat) 0)

-- the file is refused with a number, and all grounds in it are these
pub record Refused (cat : List ℕ) (n : ℕ) (all : List ℕ) : Type 0 where
  pub code : check_code cat ≡ n
  pub alone : grounds cat ≡ all

-- the only ground in the file
abbrev pub Only : List ℕ → ℕ → Type 0
Only cat n = Refused cat n (n ∷ [])

-- 1: the smallest file without its last byte
unfoldable pub cut : List ℕ
cut = take 15 (head_of 0 no_parent 0 ++ trailer_of (0 ∷ []) 1 6)

-- 2: no table; 17 tables without columns and rows; a byte between the offsets and the number of tables
unfoldable pub no_table : List ℕ
no_table = head_of 0 no_parent 0 ++ bytes4 0 ++ trailer_of [] 0 10

unfoldable pub children : ℕ → List ℕ
children zero = []
children (suc n) = head_of 0 0 0 ++ children n

unfoldable pub offsets_from : ℕ → ℕ → List ℕ
offsets_from zero i = []
offsets_from (suc n) i = i ∷ offsets_from n (i + 6)

unfoldable pub many_tables : List ℕ
many_tables = head_of 0 no_parent 0 ++ children 16 ++ trailer_of (offsets_from 17 0) 17 102

unfoldable pub long_trailer : List ℕ
long_trailer = head_of 0 no_parent 0 ++ bytes4 0 ++ (0 ∷ []) ++ bytes2 1 ++ bytes4 6

-- 3: the first table starts at 1; a byte between two tables; the second table has 4 bytes; a row without its code; a
-- byte after the last table
unfoldable pub late_table : List ℕ
late_table = (0 ∷ []) ++ head_of 0 no_parent 0 ++ trailer_of (1 ∷ []) 1 7

unfoldable pub gap : List ℕ
gap = head_of 0 no_parent 0 ++ (0 ∷ []) ++ head_of 0 0 0 ++ trailer_of (0 ∷ 7 ∷ []) 2 13

unfoldable pub short_head : List ℕ
short_head = head_of 0 no_parent 0 ++ bytes2 0 ++ bytes2 0 ++ trailer_of (0 ∷ 6 ∷ []) 2 10

unfoldable pub short_row : List ℕ
short_row = head_of 1 no_parent 1 ++ bytes2 no_parent ++ trailer_of (0 ∷ []) 1 8

unfoldable pub left_byte : List ℕ
left_byte = head_of 0 no_parent 0 ++ (0 ∷ []) ++ trailer_of (0 ∷ []) 1 7

-- 4: 17 columns; 4,097 rows, all there
unfoldable pub many_columns : List ℕ
many_columns = head_of 17 no_parent 0 ++ trailer_of (0 ∷ []) 1 6

-- n root rows without columns: each is its parent row, two bytes 255
unfoldable pub rows_only : ℕ → List ℕ
rows_only n = head_of 0 no_parent n ++ (replicate (2 * n) 255 ++ trailer_of (0 ∷ []) 1 (6 + 2 * n))

unfoldable pub many_rows : List ℕ
many_rows = rows_only 4097

-- 5: the root has a parent table; a table is its own parent
unfoldable pub rooted_root : List ℕ
rooted_root = head_of 0 0 0 ++ trailer_of (0 ∷ []) 1 6

unfoldable pub own_parent : List ℕ
own_parent = head_of 0 no_parent 0 ++ head_of 0 1 0 ++ trailer_of (0 ∷ 6 ∷ []) 2 12

-- 6: 16 columns, and one more in a table below
unfoldable pub too_wide : List ℕ
too_wide = head_of 16 no_parent 0 ++ head_of 1 0 0 ++ trailer_of (0 ∷ 6 ∷ []) 2 12

-- 7: a root row has a parent row; a row's parent is not below the parent table's rows
unfoldable pub rooted_row : List ℕ
rooted_row = head_of 0 no_parent 1 ++ row_of 0 [] ++ trailer_of (0 ∷ []) 1 8

unfoldable pub unknown_parent_row : List ℕ
unknown_parent_row = head_of 0 no_parent 0 ++ head_of 0 0 1 ++ row_of 0 [] ++ trailer_of (0 ∷ 6 ∷ []) 2 14

pub record Damages : Type 0 where
  -- no file under 16 bytes has a sound trailer and a whole table before it, so it has other faults too
  pub short_file : check_code cut ≡ 1
  -- with no table, the end of the last table is no place in the file, so 'left bytes' fails too
  pub tables_none : check_code no_table ≡ 2
  pub tables_many : Only many_tables 2
  pub trailer_long : Only long_trailer 2
  pub extent_offset : Only late_table 3
  pub extent_gap : Only gap 3
  -- where the 6 bytes pass the trailer, so do the rows, and the end of the last table is not the trailer's first
  -- byte: all three are 3
  pub extent_head : Refused short_head 3 (3 ∷ 3 ∷ 3 ∷ [])
  -- and where the rows pass it, the end of the last table is not the trailer's first byte
  pub extent_rows : Refused short_row 3 (3 ∷ 3 ∷ [])
  pub extent_left : Only left_byte 3
  -- a table's own columns are visible, so 17 of them are too many for 6 as well
  pub columns_many : Refused many_columns 4 (4 ∷ 6 ∷ [])
  pub rows_many : Only many_rows 4
  pub parent_of_root : Only rooted_root 5
  pub parent_itself : Only own_parent 5
  pub visible_many : Only too_wide 6
  pub parent_of_root_row : Only rooted_row 7
  pub parent_row_unknown : Only unknown_parent_row 7
  -- what this says: neither another number nor a ground beside the one is allowed
  pub not_beside : Only no_table 2 → ⊥
  pub not_another : Refused no_table 3 (2 ∷ 3 ∷ []) → ⊥

-- files at the bounds: 16 bytes; 16 columns; 4,096 rows; 15 columns and one more in a table below. 16 tables:
-- `deepest` of specs/Line.antt
unfoldable pub smallest : List ℕ
smallest = head_of 0 no_parent 0 ++ trailer_of (0 ∷ []) 1 6

unfoldable pub most_columns : List ℕ
most_columns = head_of 16 no_parent 0 ++ trailer_of (0 ∷ []) 1 6

unfoldable pub most_rows : List ℕ
most_rows = rows_only 4096

unfoldable pub widest : List ℕ
widest = head_of 15 no_parent 0 ++ head_of 1 0 0 ++ trailer_of (0 ∷ 6 ∷ []) 2 12

pub record AtTheBounds : Type 0 where
  pub bytes16 : Accepted smallest
  pub columns16 : Accepted most_columns
  pub rows4096 : Accepted most_rows
  pub visible16 : Accepted widest

-- several faults each: an offset and 17 columns; 17 columns and the root's parent table; a table its own parent,
-- whose columns then count again and again; too many visible columns and a row that passes the trailer, below a table
-- without rows; such a row and its parent row
unfoldable pub late_and_large : List ℕ
late_and_large = (0 ∷ []) ++ head_of 17 no_parent 0 ++ trailer_of (1 ∷ []) 1 7

unfoldable pub large_and_rooted : List ℕ
large_and_rooted = head_of 17 0 0 ++ trailer_of (0 ∷ []) 1 6

unfoldable pub own_parent_and_wide : List ℕ
own_parent_and_wide = head_of 0 no_parent 0 ++ head_of 2 1 0 ++ trailer_of (0 ∷ 6 ∷ []) 2 12

unfoldable pub wide_and_long : List ℕ
wide_and_long = head_of 16 no_parent 0 ++ head_of 1 0 1 ++ trailer_of (0 ∷ 6 ∷ []) 2 12

unfoldable pub long_and_rooted : List ℕ
long_and_rooted = head_of 1 no_parent 1 ++ bytes2 0 ++ trailer_of (0 ∷ []) 1 8

-- table by table: a root row with a parent row, and then a table that is its own parent; and then a byte after the
-- last table
unfoldable pub row_then_table : List ℕ
row_then_table = head_of 0 no_parent 1 ++ row_of 0 [] ++ head_of 0 1 0 ++ trailer_of (0 ∷ 8 ∷ []) 2 14

unfoldable pub row_then_byte : List ℕ
row_then_byte = head_of 0 no_parent 1 ++ row_of 0 [] ++ (0 ∷ []) ++ trailer_of (0 ∷ []) 1 9

unfoldable pub row_then_gap : List ℕ
row_then_gap = head_of 0 no_parent 1 ++ row_of 0 [] ++ (0 ∷ []) ++ head_of 0 0 0 ++ trailer_of (0 ∷ 9 ∷ []) 2 15

pub record DamageOrder : Type 0 where
  -- 1 before 2: 15 bytes without a sound trailer
  pub one_before2 : (size_code cut ≡ 1) × (trailer_code cut ≡ 2) × (check_code cut ≡ 1)
  -- 2 before the tables: no table, and bytes left
  pub two_before3 : Refused no_table 2 (2 ∷ 3 ∷ [])
  -- in a table: offset and 6 bytes (3), 4, 5, 6, rows' extent (3), each row (7). Where rows pass the trailer, the end
  -- of the last table is not its first byte, so 3 stands at the end too
  pub three_before4 : Refused late_and_large 3 (3 ∷ 4 ∷ 6 ∷ [])
  pub four_before5 : Refused large_and_rooted 4 (4 ∷ 5 ∷ 6 ∷ [])
  pub five_before6 : Refused own_parent_and_wide 5 (5 ∷ 6 ∷ [])
  pub six_before3 : Refused wide_and_long 6 (6 ∷ 3 ∷ 7 ∷ 3 ∷ [])
  pub three_before7 : Refused long_and_rooted 3 (3 ∷ 7 ∷ 3 ∷ [])
  -- table by table, and left bytes last
  pub table_by_table : Refused row_then_table 7 (7 ∷ 5 ∷ [])
  pub offsets_in_turn : Refused row_then_gap 7 (7 ∷ 3 ∷ [])
  pub left_bytes_last : Refused row_then_byte 7 (7 ∷ 3 ∷ [])
