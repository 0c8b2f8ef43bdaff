-- How long the file of some tables is: each row of a table has a code for each column.
use Rattle.std.specs.Prelude.{ℕ, ◌+◌, ◌*◌, ◌≡◌, List, [], ◌∷◌, length, take}
use Rattle.model.specs.Encode.{Content, tables_bytes}
use Rattle.encoding.specs.Each.{Each}

-- rows of w codes each, and tables whose rows have a code for each column
abbrev pub EvenRows : ℕ → List (ℕ × List ℕ) → Type 0
EvenRows w rs = Each (λ r. length r.1 ≡ w) rs

abbrev pub Even : List Content → Type 0
Even ts = Each (λ t. EvenRows t.columns t.rows) ts

-- the bytes of a table of c columns and r rows, and of some tables
unfoldable pub size_of : ℕ → ℕ → ℕ
size_of c r = 6 + r * (2 + 4 * c)

unfoldable pub sizes : List Content → ℕ
sizes [] = 0
sizes (t ∷ ts) = size_of t.columns (length t.rows) + sizes ts

-- where table i starts: behind the tables before it
unfoldable pub start_at : List Content → ℕ → ℕ
start_at ts i = length (tables_bytes (take i ts))
