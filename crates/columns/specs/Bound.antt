-- The bound on visible columns, once in the definitions; `COLUMN_BOUND` of src/lib.rt is the same number in code.
use Rattle.std.specs.Prelude.{ℕ}

abbrev pub column_bound : ℕ
column_bound = 16
