-- The refusals of a conversion, in words (document 02, f): what each number says, that nothing else is refused by it,
-- the order, and that there are no others.
use Rattle.std.specs.Prelude.{ℕ, ◌≤◌, ◌<◌, ◌≡◌, ◌⊎◌, ◌↔◌, List, length}
use Rattle.model.specs.Bounds.{row_bound}
use Rattle.model.specs.Refusal.{number}
use Rattle.model.specs.Reply.{refused}
use Rattle.model.specs.Catalogue.{tables, rows}
use Rattle.model.specs.Check.{Accepted, check_code}
use Rattle.model.specs.Forest.{Forest, Fits}
use Rattle.model.specs.Xml.{Document}
use Rattle.model.specs.Convert.{convert_code, convert_meaning, converted_output}
use Rattle.model.specs.declared.Refusal.TheVariants.{BadParentRow, BadText, UnfitText, NoRoom}
use Rattle.standing.specs.Tags.{rows_of}
use Rattle.conversion.specs.Conversion.{NoRows, catalogue_of}

-- the text stands for no rows
abbrev pub NoForm : List ℕ → Type 0
NoForm text = (f : Forest) → Document text f → ⊥

-- a table of the shape has a row
abbrev pub HasRow : List ℕ → Type 0
HasRow shape = (t : ℕ) × (t < tables shape) × (0 < rows shape t)

-- the shape has rows, or the rows of a text do not fit it
abbrev pub Misfits : List ℕ → Forest → Type 0
Misfits shape f = HasRow shape ⊎ (Fits shape f → ⊥)

-- a table gets more rows than a table may have
abbrev pub ManyRows : List ℕ → Forest → Type 0
ManyRows shape f = (t : ℕ) × (t < tables shape) × (row_bound < length (rows_of shape f t))

-- the rows are too many for a table, or their catalogue is too long for the output
abbrev pub Overfills : List ℕ → ℕ → Forest → Type 0
Overfills shape room f = ManyRows shape f ⊎ (room < length (catalogue_of shape f))

-- 20: the text is not of the form
pub record BadlyFormed (shape text : List ℕ) : Type 0 where
  pub accepted : Accepted shape
  pub no_form : NoForm text

-- 21: it is, but the shape has rows, or the rows of the text do not fit it
pub record Unfit (shape text : List ℕ) (f : Forest) : Type 0 where
  pub accepted : Accepted shape
  pub form : Document text f
  pub unfit : Misfits shape f

-- 22: they do, but they are too many for a table, or their catalogue is too long for the output
pub record TooLarge (shape text : List ℕ) (room : ℕ) (f : Forest) : Type 0 where
  pub accepted : Accepted shape
  pub form : Document text f
  pub empty : NoRows shape
  pub fits : Fits shape f
  pub large : Overfills shape room f

-- the codes of a conversion: none, the shape's 1 to 7, and 20 to 22
abbrev pub ConvertCode : ℕ → Type 0
ConvertCode n = (n ≤ number BadParentRow) ⊎ ((n ≡ number BadText) ⊎ ((n ≡ number UnfitText) ⊎ (n ≡ number NoRoom)))

pub record RefusedExactly (shape text : List ℕ) (room : ℕ) : Type 0 where
  -- 1 to 7 are those of the shape
  pub shapes : (n : ℕ) → 0 < n → n ≤ number BadParentRow → (convert_code shape text room ≡ n) ↔ (check_code shape ≡ n)
  -- 20, 21 and 22
  pub bad_text : (convert_code shape text room ≡ number BadText) ↔ BadlyFormed shape text
  pub unfit_text : (convert_code shape text room ≡ number UnfitText) ↔ ((f : Forest) × Unfit shape text f)
  pub no_room : (convert_code shape text room ≡ number NoRoom) ↔ ((f : Forest) × TooLarge shape text room f)
  -- no other number
  pub no_other : ConvertCode (convert_code shape text room)

-- what a refused conversion leaves of a lent output, and its reply
pub record Left (shape text out : List ℕ) : Type 0 where
  pub output : converted_output shape text out ≡ out
  pub reply : convert_meaning shape text (length out) ≡ refused (convert_code shape text (length out))
