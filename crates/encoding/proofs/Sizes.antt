-- How long the parts of a file are.
use Prim.Native.Nat.{ℕ, suc, ◌+◌, ◌*◌}
use mathlib.Core.Path.{◌≡◌, refl, sym, ap}
use mathlib.Core.List.{List, [], ◌∷◌}
use native.Mathlib.Nat.{zero-mul, suc-mul}
use native.Mathlib.Omega.{arith}
use lib.ListN.{length, length-append}
use Rattle.model.specs.Bytes.{bytes2, bytes4}
use Rattle.model.specs.Encode.{Content, head_of, codes_of, row_of, trailer_of, rows_bytes, table_bytes, tables_bytes}
use Rattle.model.specs.Encode.{starts_from, encode}
use Rattle.encoding.specs.Sizes.{EvenRows, Even, size_of, sizes}

-- numbers, the first bytes of a table, and codes
pub bytes2_length : (n : ℕ) → length (bytes2 n) ≡ 2
unfolding bytes2
bytes2_length n = refl

pub bytes4_length : (n : ℕ) → length (bytes4 n) ≡ 4
unfolding bytes4
bytes4_length n = refl

pub head_length : (c p r : ℕ) → length (head_of c p r) ≡ 6
unfolding head_of
head_length c p r = simp (length-append, bytes2_length)

pub codes_length : (cs : List ℕ) → length (codes_of cs) ≡ 4 * length cs
unfolding codes_of
codes_length [] = refl
codes_length (c ∷ cs) = simp (length-append, bytes4_length, codes_length cs) (omega arith)

-- a row, the rows, a table
pub row_length : (p : ℕ) (cs : List ℕ) → length (row_of p cs) ≡ 2 + 4 * length cs
unfolding row_of
row_length p cs = simp (length-append, bytes2_length, codes_length cs)

pub rows_length : (w : ℕ) (rs : List (ℕ × List ℕ)) → EvenRows w rs → length (rows_bytes rs) ≡ length rs * (2 + 4 * w)
unfolding rows_bytes
rows_length w [] h = sym (zero-mul (2 + 4 * w))
rows_length w (r ∷ rs) h =
    simp (length-append, row_length) (omega (arith, suc-mul (length rs) (2 + 4 * w), rows_length w rs h.1, h.0))

pub table_length : (t : Content) → EvenRows t.columns t.rows
    → length (table_bytes t) ≡ size_of t.columns (length t.rows)
unfolding table_bytes size_of
table_length t h = simp (length-append, head_length, rows_length t.columns t.rows h)

-- the tables, and the whole file
pub tables_length : (ts : List Content) → Even ts → length (tables_bytes ts) ≡ sizes ts
unfolding tables_bytes sizes
tables_length [] h = refl
tables_length (t ∷ ts) h = simp (length-append, table_length t h.0, tables_length ts h.1)

pub starts_length : (at : ℕ) (ts : List Content) → length (starts_from at ts) ≡ length ts
unfolding starts_from
starts_length at [] = refl
starts_length at (t ∷ ts) = ap suc (starts_length (at + length (table_bytes t)) ts)

pub trailer_length : (offsets : List ℕ) (n at : ℕ) → length (trailer_of offsets n at) ≡ 4 * length offsets + 6
unfolding trailer_of
trailer_length offsets n at = simp (length-append, codes_length, bytes2_length, bytes4_length) (omega arith)

pub file_length : (ts : List Content) → length (encode ts) ≡ length (tables_bytes ts) + 4 * length ts + 6
unfolding encode
file_length ts = simp (length-append, trailer_length, starts_length) (omega arith)

pub encode_length : (ts : List Content) → Even ts → length (encode ts) ≡ sizes ts + 4 * length ts + 6
encode_length ts h = rw (file_length ts, tables_length ts h)
