-- The bounds of document 01, once in the definitions; src/lib.rt has the same numbers in code. The bound on columns
-- is that of `columns`.
use Rattle.std.specs.Prelude.{ℕ}

-- tables in a catalogue, at most
abbrev pub table_bound : ℕ
table_bound = 16

-- rows in a table, at most
abbrev pub row_bound : ℕ
row_bound = 4096

-- work words lent, at least
abbrev pub work_bound : ℕ
work_bound = 16384

-- bytes of the smallest file: one table without columns and rows, and the trailer
abbrev pub smallest_file : ℕ
smallest_file = 16

-- the number that stands for 'no table' and 'no row' above the root
abbrev pub no_parent : ℕ
no_parent = 65535

-- the code of a missing cell
abbrev pub missing : ℕ
missing = 4294967295

-- the right side that is the row itself
abbrev pub row : ℕ
row = 255

-- bytes that the listing program reads, at most
abbrev pub file_bound : ℕ
file_bound = 32768
