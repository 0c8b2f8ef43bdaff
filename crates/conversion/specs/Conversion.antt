-- What a conversion is (document 02, f): when a text is converted by a shape, and the catalogue and the output then.
use Rattle.std.specs.Prelude.{ℕ, ◌≤◌, ◌<◌, ◌≡◌, List, [], ◌∷◌, ◌++◌, length, drop, get_or}
use Rattle.model.specs.Bounds.{row_bound}
use Rattle.model.specs.Reply.{answered}
use Rattle.model.specs.Catalogue.{tables, columns, parent, rows, parent_row, cell, visible}
use Rattle.model.specs.Check.{Accepted}
use Rattle.model.specs.Encode.{encode}
use Rattle.model.specs.Forest.{Forest, Fits, contents_of}
use Rattle.model.specs.Xml.{Document}
use Rattle.model.specs.Convert.{converted, convert_meaning, converted_output}
use Rattle.standing.specs.Tags.{rows_of}

-- no table of the shape has a row
abbrev pub NoRows : List ℕ → Type 0
NoRows shape = (t : ℕ) → t < tables shape → rows shape t ≡ 0

-- no table gets more rows than a table may have
abbrev pub FewRows : List ℕ → Forest → Type 0
FewRows shape f = (t : ℕ) → t < tables shape → length (rows_of shape f t) ≤ row_bound

-- the catalogue of rows: the tables of the shape with them
abbrev pub catalogue_of : List ℕ → Forest → List ℕ
catalogue_of shape f = encode (contents_of shape f)

-- a text is converted by a shape into an output of so many bytes, as the rows f
pub record Converts (shape text : List ℕ) (room : ℕ) (f : Forest) : Type 0 where
  -- the shape is an accepted catalogue without rows
  pub accepted : Accepted shape
  pub empty : NoRows shape
  -- the text is of the form, and stands for the rows
  pub form : Document text f
  -- the rows fit the shape: tables, columns and places
  pub fits : Fits shape f
  -- they are not too many for a table, and their catalogue is not too long for the output
  pub few : FewRows shape f
  pub short : length (catalogue_of shape f) ≤ room

-- bytes are the catalogue of the rows: the shape's tables, with these rows
pub record IsCatalogue (shape : List ℕ) (f : Forest) (out : List ℕ) : Type 0 where
  -- it is accepted
  pub accepted : Accepted out
  -- tables, columns, parents and visible columns are those of the shape
  pub tables_same : tables out ≡ tables shape
  pub columns_same : (t : ℕ) → t < tables shape → columns out t ≡ columns shape t
  pub parent_same : (t : ℕ) → t < tables shape → parent out t ≡ parent shape t
  pub visible_same : (t : ℕ) → t < tables shape → visible out t ≡ visible shape t
  -- the rows are those of the text: how many, the row that each stands in, and its codes
  pub rows_as : (t : ℕ) → t < tables shape → rows out t ≡ length (rows_of shape f t)
  pub parent_row_as : (t k : ℕ) → t < tables shape → k < length (rows_of shape f t)
      → parent_row out t k ≡ (get_or (rows_of shape f t) k (0, [])).0
  pub cell_as : (t k c : ℕ) → t < tables shape → k < length (rows_of shape f t) → c < columns shape t
      → cell out t k c ≡ get_or (get_or (rows_of shape f t) k (0, [])).1 c 0

-- what the conversion then gives with a lent output
pub record ConvertedAs (shape text out : List ℕ) (f : Forest) : Type 0 where
  -- what is read off the tags is the catalogue of the rows
  pub made : converted shape text ≡ catalogue_of shape f
  pub catalogue : IsCatalogue shape f (catalogue_of shape f)
  -- it stands at the start of the output, and no other byte changes
  pub written : converted_output shape text out ≡ catalogue_of shape f ++ drop (length (catalogue_of shape f)) out
  pub length_kept : length (converted_output shape text out) ≡ length out
  -- its length is returned
  pub reply : convert_meaning shape text (length out) ≡ answered (length (catalogue_of shape f) ∷ [])
