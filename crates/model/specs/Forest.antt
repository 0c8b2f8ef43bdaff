-- What a supplier's text means (document 02, f): rows that stand in rows, in text order; the tables that they make; and
-- when they fit a shape, which is a catalogue without rows.
use Rattle.std.specs.Prelude.{ℕ, zero, suc, ◌<◌, ◌≡◌, List, [], ◌∷◌, ◌++◌}
use Rattle.columns.specs.Test.{if_eq}
use Rattle.model.specs.Bounds.{missing, no_parent}
use Rattle.model.specs.Catalogue.{tables, columns, parent}
use Rattle.model.specs.Encode.{Content, content}

-- the attributes of a row: for each the number of its column and its value
abbrev pub Cells : Type 0
Cells = List (ℕ × ℕ)

-- rows one after the other: the first with its table, its attributes and the rows that stand in it, then the others
pub data Forest : Type 0 where
  none : Forest
  tree : (table : ℕ) (cells : Cells) (inside after : Forest) → Forest

-- the code of column k: the value of its attribute, or what it has without one
unfoldable pub value_or : ℕ → ℕ → Cells → ℕ
value_or k code [] = code
value_or k code (c ∷ cs) = value_or k (if_eq c.0 k c.1 code) cs

-- the codes of n columns from column k on; an absent attribute is a missing cell
unfoldable pub codes_from : ℕ → ℕ → Cells → List ℕ
codes_from zero k cs = []
codes_from (suc n) k cs = value_or k missing cs ∷ codes_from n (suc k) cs

-- how often a number stands in a list
unfoldable pub times : ℕ → List ℕ → ℕ
times n [] = 0
times n (x ∷ xs) = if_eq x n (suc (times n xs)) (times n xs)

-- the tables of the rows, in text order
unfoldable pub tables_in : Forest → List ℕ
tables_in none = []
tables_in (tree n cs inside after) = n ∷ (tables_in inside ++ tables_in after)

-- The rows of a table of c columns: each with its parent row, which is the number of the row that it stands in, and its
-- codes. The forest stands in the row of number `up`; `before` are the tables of all rows before it in the text. Rows
-- are numbered in text order within their table: a row's number is how many rows of its table stand before it.
unfoldable pub rows_in : ℕ → ℕ → Forest → ℕ → List ℕ → List (ℕ × List ℕ)
rows_in c table none up before = []
rows_in c table (tree n cs inside after) up before =
    if_eq n table ((up, codes_from c 0 cs) ∷ []) []
    ++ (rows_in c table inside (times n before) (before ++ (n ∷ []))
    ++ rows_in c table after up (before ++ (n ∷ tables_in inside)))

-- what n tables hold, from one on: columns and parent as in the shape, and the rows; the root's rows stand in no row
unfoldable pub contents_in : List ℕ → Forest → ℕ → ℕ → List Content
contents_in shape f zero table = []
contents_in shape f (suc n) table =
    content (columns shape table) (parent shape table) (rows_in (columns shape table) table f no_parent [])
    ∷ contents_in shape f n (suc table)

-- all tables of the shape with the rows of the text
unfoldable pub contents_of : List ℕ → Forest → List Content
contents_of shape f = contents_in shape f (tables shape) 0

-- every attribute is of one of c columns
abbrev pub ColumnsBelow : ℕ → Cells → Type 0
ColumnsBelow c [] = Unit {0}
ColumnsBelow c (x ∷ cs) = (x.0 < c) × ColumnsBelow c cs

-- The rows fit the shape where they stand: each is of a table of the shape, stands in a row of that table's parent
-- (`up` is the table of the row that the forest stands in, or 'none'), and has attributes of own columns only.
abbrev pub FitsIn : List ℕ → ℕ → Forest → Type 0
FitsIn shape up none = Unit {0}
FitsIn shape up (tree n cs inside after) =
    (n < tables shape) × ((parent shape n ≡ up) × (ColumnsBelow (columns shape n) cs
    × (FitsIn shape n inside × FitsIn shape up after)))

abbrev pub Fits : List ℕ → Forest → Type 0
Fits shape f = FitsIn shape no_parent f
