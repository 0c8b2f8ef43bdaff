-- The conversion of a supplier's text by a shape (document 02, f): refusals 20 to 22, the reply and the output. What
-- the text means is told by specs/Xml and specs/Forest; here it is read off the tags one after the other, and that this
-- gives the same tables is proved: `converts_exactly`.
use Rattle.std.specs.Prelude.{ℕ, zero, suc, ◌-◌, Bool, true, false, ◌&&◌, List, [], ◌∷◌, ◌++◌, eqb, ltb, length, drop}
use Rattle.std.specs.Prelude.{get_or}
use Rattle.columns.specs.Test.{pick, if_eq, if_lt}
use Rattle.model.specs.Bounds.{row_bound, no_parent}
use Rattle.model.specs.Refusal.{number, or_else, first_of}
use Rattle.model.specs.Reply.{Reply, reply_of}
use Rattle.model.specs.Catalogue.{tables, columns, parent, rows}
use Rattle.model.specs.Check.{check_code}
use Rattle.model.specs.Encode.{Content, content, encode}
use Rattle.model.specs.Forest.{Cells, codes_from}
use Rattle.model.specs.Xml.{less, row_letter}
use Rattle.model.specs.Form.{number_in, cells_in, document_at}
use Rattle.model.specs.declared.Refusal.TheVariants.{BadText, UnfitText, NoRoom}

-- a row's tag: its table and its attributes
abbrev pub Tag : Type 0
Tag = ℕ × Cells

-- the tags of a text, in text order: each `<t` begins one
unfoldable pub tags_in : List ℕ → List Tag
tags_in [] = []
tags_in (x ∷ l) =
    pick (eqb x less && eqb (get_or l 0 0) row_letter) ((number_in (drop 1 l), cells_in (drop 1 l)) ∷ tags_in l) (tags_in l)

-- how many of them are of a table
unfoldable pub count_of : ℕ → List Tag → ℕ
count_of n [] = 0
count_of n (t ∷ ts) = if_eq t.0 n (suc (count_of n ts)) (count_of n ts)

-- The rows of a table of c columns. `seen` is how many rows of its parent table stand before: the last of these is the
-- row that it stands in.
unfoldable pub rows_from : ℕ → ℕ → ℕ → ℕ → List Tag → List (ℕ × List ℕ)
rows_from c above table seen [] = []
rows_from c above table seen (t ∷ ts) =
    if_eq t.0 table ((if_eq table 0 no_parent (seen - 1), codes_from c 0 t.1) ∷ rows_from c above table seen ts)
    (rows_from c above table (if_eq t.0 above (suc seen) seen) ts)

-- what n tables hold, from one on: columns and parent as in the shape, and the rows
unfoldable pub table_from : List ℕ → List Tag → ℕ → Content
table_from shape ts table =
    content (columns shape table) (parent shape table)
    (rows_from (columns shape table) (parent shape table) table 0 ts)

unfoldable pub contents_from : List ℕ → List Tag → ℕ → ℕ → List Content
contents_from shape ts zero table = []
contents_from shape ts (suc n) table = table_from shape ts table ∷ contents_from shape ts n (suc table)

-- the catalogue of a text
unfoldable pub converted : List ℕ → List ℕ → List ℕ
converted shape text = encode (contents_from shape (tags_in text) (tables shape) 0)

-- a tag fits the shape in a row of table `up`
unfoldable pub are_below : ℕ → Cells → Bool
are_below c [] = true
are_below c (x ∷ cs) = ltb x.0 c && are_below c cs

unfoldable pub fits_tag : List ℕ → ℕ → ℕ → Cells → Bool
fits_tag shape up n cs = ltb n (tables shape) && eqb (parent shape n) up && are_below (columns shape n) cs

-- which tags are to be taken: all, or those that fit
unfoldable pub taken : Bool → List ℕ → ℕ → ℕ → Cells → Bool
taken false shape up n cs = true
taken true shape up n cs = fits_tag shape up n cs

-- 20: the text is not of the form
unfoldable pub form_code : List ℕ → ℕ
form_code text = if_eq (document_at text (taken false [])) 0 (number BadText) 0

-- 21: the shape has rows, or a table, a column or a row's place does not fit it
unfoldable pub empty_code : List ℕ → ℕ → ℕ
empty_code shape table = if_eq (rows shape table) 0 0 (number UnfitText)

unfoldable pub fit_code : List ℕ → List ℕ → ℕ
fit_code shape text =
    or_else (first_of (tables shape) 0 (empty_code shape))
    (if_eq (document_at text (taken true shape)) 0 (number UnfitText) 0)

-- 22: a table has too many rows, or the output is too short
unfoldable pub many_code : List Tag → ℕ → ℕ
many_code ts table = if_lt row_bound (count_of table ts) (number NoRoom) 0

unfoldable pub full_code : List ℕ → List ℕ → ℕ → ℕ
full_code shape text room =
    or_else (first_of (tables shape) 0 (many_code (tags_in text)))
    (if_lt room (length (converted shape text)) (number NoRoom) 0)

-- 1 to 7 on the shape, then 20, 21 and 22, each over the whole text
unfoldable pub convert_code : List ℕ → List ℕ → ℕ → ℕ
convert_code shape text room =
    or_else (check_code shape)
    (or_else (form_code text) (or_else (fit_code shape text) (full_code shape text room)))

-- the reply: how many bytes were written; and the output afterwards, written from its start
unfoldable pub convert_meaning : List ℕ → List ℕ → ℕ → Reply
convert_meaning shape text room =
    reply_of (convert_code shape text room) (length (converted shape text) ∷ [])

unfoldable pub converted_output : List ℕ → List ℕ → List ℕ → List ℕ
converted_output shape text out =
    if_eq (convert_code shape text (length out)) 0
    (converted shape text ++ drop (length (converted shape text)) out) out
