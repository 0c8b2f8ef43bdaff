-- Texts that are read back (document 02, f); a plain printing of rows; and the rows that have one: no column twice in a
-- row, no value that is the code of a missing cell, and not nested deeper than the form allows.
use Rattle.std.specs.Prelude.{ℕ, zero, suc, ◌≡◌, List, [], ◌∷◌, ◌++◌, T}
use Rattle.model.specs.Text.{decimal}
use Rattle.model.specs.Forest.{Cells, Forest, none, tree}
use Rattle.model.specs.Xml.{open_row, open_catalogue, close, row_letter, catalogue_name, slash, greater, column_letter}
use Rattle.model.specs.Xml.{equals, Document}
use Rattle.model.specs.Form.{is_distinct}
use Rattle.model.specs.Convert.{form_code}
use Rattle.standing.specs.Tags.{SmallCells}

-- a text is read back as rows
pub record ReadBack (text : List ℕ) (f : Forest) : Type 0 where
  -- it is of the form
  pub taken : form_code text ≡ 0
  -- it stands for no other rows
  pub only : (g : Forest) → Document text g → g ≡ f

-- the rows have a text: they are nested at most as deep as the number says, and each row's attributes are of columns
-- that differ and of values that a cell can have
abbrev pub Printable : ℕ → Forest → Type 0
Printable d none = Unit {0}
Printable zero (tree n cs inside after) = ⊥
Printable (suc d) (tree n cs inside after) =
    T (is_distinct cs) × SmallCells cs × Printable d inside × Printable (suc d) after

-- a space and a double quote
abbrev pub space : ℕ
space = 32

abbrev pub quote : ℕ
quote = 34

-- an attribute, and those of a tag
unfoldable pub attribute_text : ℕ → ℕ → List ℕ
attribute_text column value =
    space ∷ column_letter ∷ (decimal column ++ (equals ∷ quote ∷ (decimal value ++ (quote ∷ []))))

unfoldable pub cells_text : Cells → List ℕ
cells_text [] = []
cells_text (c ∷ cs) = attribute_text c.0 c.1 ++ cells_text cs

-- the end of an element of a name, by the rows in it and their text: `/>` without any
unfoldable pub inside_text : List ℕ → Forest → List ℕ → List ℕ
inside_text name none inner = slash ∷ greater ∷ []
inside_text name (tree n cs inside after) inner = greater ∷ (inner ++ (close ++ (name ++ (greater ∷ []))))

-- rows one after the other
unfoldable pub rows_text : Forest → List ℕ
rows_text none = []
rows_text (tree n cs inside after) =
    (open_row ++ (decimal n ++ (cells_text cs ++ inside_text (row_letter ∷ decimal n) inside (rows_text inside))))
    ++ rows_text after

-- the whole text
unfoldable pub printed : Forest → List ℕ
printed f = open_catalogue ++ inside_text catalogue_name f (rows_text f)
