-- The form of a supplier's text (document 02, f), apart from how it is read: what text stands for which rows. A text is
-- of the form if it stands for some.
use Rattle.std.specs.Prelude.{ℕ, suc, ◌<◌, Bool, true, false, ◌&&◌, ◌||◌, not, List, [], ◌∷◌, ◌++◌, T, eqb, leb}
use Rattle.model.specs.Bounds.{table_bound, missing}
use Rattle.model.specs.Text.{decimal}
use Rattle.model.specs.Forest.{Cells, Forest, none, tree}

-- white space is space, tab, line feed and carriage return
abbrev pub is_white : ℕ → Bool
is_white x = eqb x 32 || eqb x 9 || eqb x 10 || eqb x 13

abbrev pub White : List ℕ → Type 0
White [] = Unit {0}
White (x ∷ w) = T (is_white x) × White w

-- either quote: `"` and `'`
abbrev pub is_quote : ℕ → Bool
is_quote x = eqb x 34 || eqb x 39

-- `<t`, `<catalogue`, `</`, `t`, `catalogue`, `>`, `/>`, `c`, `=`
abbrev pub open_row : List ℕ
open_row = 60 ∷ 116 ∷ []

abbrev pub open_catalogue : List ℕ
open_catalogue = 60 ∷ 99 ∷ 97 ∷ 116 ∷ 97 ∷ 108 ∷ 111 ∷ 103 ∷ 117 ∷ 101 ∷ []

abbrev pub close : List ℕ
close = 60 ∷ 47 ∷ []

abbrev pub row_letter : ℕ
row_letter = 116

abbrev pub catalogue_name : List ℕ
catalogue_name = 99 ∷ 97 ∷ 116 ∷ 97 ∷ 108 ∷ 111 ∷ 103 ∷ 117 ∷ 101 ∷ []

abbrev pub less : ℕ
less = 60

abbrev pub slash : ℕ
slash = 47

abbrev pub greater : ℕ
greater = 62

abbrev pub column_letter : ℕ
column_letter = 99

abbrev pub equals : ℕ
equals = 61

-- no attribute is of column k
abbrev pub is_fresh : ℕ → Cells → Bool
is_fresh k [] = true
is_fresh k (c ∷ cs) = not (eqb c.0 k) && is_fresh k cs

-- An attribute: white space, `c` and the column's number, `=`, and in quotes its value. Numbers are decimal, without
-- leading zeros; a value is below the code of a missing cell.
pub data Attribute : List ℕ → ℕ → ℕ → Type 0 where
  attribute : (x : ℕ) (w u v : List ℕ) (q column value : ℕ) → T (is_white x) → White w → White u → White v
      → T (is_quote q) → value < missing
      → Attribute
      (x ∷ (w ++ (column_letter ∷ (decimal column ++ (u ++ (equals ∷ (v ++ (q ∷ (decimal value ++ (q ∷ []))))))))))
      column value

-- the attributes of a tag: in any order, none twice
pub data Attributes : List ℕ → Cells → Type 0 where
  no_more : Attributes [] []
  one_more : {a l : List ℕ} {column value : ℕ} {cells : Cells} → Attribute a column value → Attributes l cells
      → T (is_fresh column cells) → Attributes (a ++ l) ((column, value) ∷ cells)

-- An element is a row: a tag with its table and its attributes, and either nothing, by `/>`, or content up to the end
-- tag of the same name. Content is white space and elements. Rows nest at most as deep as the number says.
mutual
  pub data Element : ℕ → List ℕ → ℕ → Cells → Forest → Type 0 where
    empty : {d table : ℕ} {l : List ℕ} {cells : Cells} → Attributes l cells → (w : List ℕ) → White w
        → Element (suc d) (open_row ++ (decimal table ++ (l ++ (w ++ (slash ∷ greater ∷ []))))) table cells none
    filled : {d table : ℕ} {l inner : List ℕ} {cells : Cells} {inside : Forest} → Attributes l cells → (w : List ℕ)
        → White w → Content d inner inside → (u : List ℕ) → White u
        → Element (suc d)
        (open_row ++ (decimal table ++ (l ++ (w ++ (greater ∷ (inner
        ++ (close ++ ((row_letter ∷ decimal table) ++ (u ++ (greater ∷ []))))))))))
        table cells inside

  pub data Content : ℕ → List ℕ → Forest → Type 0 where
    blank : {d : ℕ} (w : List ℕ) → White w → Content d w none
    more : {d table : ℕ} {l rest : List ℕ} {cells : Cells} {inside after : Forest} (w : List ℕ) → White w
        → Element d l table cells inside → Content d rest after
        → Content d (w ++ (l ++ rest)) (tree table cells inside after)

-- The text is one element `catalogue` without attributes, with white space before and after; rows of up to 16 tables
-- stand in it.
pub data Document : List ℕ → Forest → Type 0 where
  empty : (w u v : List ℕ) → White w → White u → White v
      → Document (w ++ (open_catalogue ++ (u ++ (slash ∷ greater ∷ v)))) none
  filled : {inner : List ℕ} {rows : Forest} (w u v x : List ℕ) → White w → White u → White v → White x
      → Content table_bound inner rows
      → Document
      (w ++ (open_catalogue ++ (u ++ (greater ∷ (inner ++ (close ++ (catalogue_name ++ (v ++ (greater ∷ x)))))))))
      rows
