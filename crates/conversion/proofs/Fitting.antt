-- The grounds 21 and 22 of a text that stands for rows, and the rows themselves: what is read off the tags is the
-- catalogue of the rows.
use Prim.Native.Nat.{ℕ, ◌≤◌, ◌<◌}
use mathlib.Core.Path.{◌≡◌, sym, ap, subst, ◌∙◌}
use mathlib.Core.Bool.{true}
use mathlib.Core.List.{List}
use native.Mathlib.Omega.{arith}
use lib.ListN.{length}
use Rattle.columns.specs.Test.{if_lt}
use Rattle.model.specs.Bounds.{row_bound, no_parent}
use Rattle.model.specs.Refusal.{number, first_of}
use Rattle.model.specs.Catalogue.{tables, rows}
use Rattle.model.specs.Check.{Accepted}
use Rattle.model.specs.Encode.{encode}
use Rattle.model.specs.Forest.{Forest, Fits}
use Rattle.model.specs.Xml.{Document}
use Rattle.model.specs.Form.{document_at}
use Rattle.model.specs.Convert.{Tag, tags_in, count_of, contents_from, converted, taken, empty_code, fit_code}
use Rattle.model.specs.Convert.{many_code}
use Rattle.model.specs.Convert.{full_code}
use Rattle.model.specs.declared.Refusal.TheVariants.{UnfitText, NoRoom}
use Rattle.standing.specs.Tags.{rows_of}
use Rattle.standing.proofs.Taken.{taken_fits, fits_taken}
use Rattle.standing.proofs.Standing.{contents_standing}
use Rattle.standing.proofs.Sound.{forest_count}
use Rattle.numerals.proofs.Tags.{tags_document}
use Rattle.grammar.proofs.Document.{document_sound, document_complete}
use Rattle.grammar.proofs.Unique.{meaning_unique}
use Rattle.conversion.specs.Conversion.{NoRows, FewRows, catalogue_of}
use Rattle.conversion.specs.Refusals.{HasRow, Misfits, Overfills}
use Rattle.conversion.proofs.Ground.{Ground, ground_as, ground_eq, ground_ne, ground_lt, ground_or}
use Rattle.conversion.proofs.Ground.{grounds_below}

-- the rows fit a shape without rows; and there is room for them
abbrev pub Fitting : List ℕ → Forest → Type 0
Fitting shape f = NoRows shape × Fits shape f

abbrev pub Roomy : List ℕ → ℕ → Forest → Type 0
Roomy shape room f = FewRows shape f × (length (catalogue_of shape f) ≤ room)

-- 21: the shape has a row
empty_ground : (shape : List ℕ)
    → Ground (NoRows shape) (HasRow shape) (number UnfitText) (first_of (tables shape) 0 (empty_code shape))
unfolding empty_code
empty_ground shape =
    ground_as (λ h. h) (λ h. (h.0, h.1, let n = h.2 in omega arith))
    (grounds_below (omega arith) (λ t. rows shape t ≡ 0) (λ t. rows shape t ≡ 0 → ⊥) (empty_code shape)
    (λ t. ground_ne (rows shape t) 0 (number UnfitText)) (tables shape))

-- 22: there are too many tags of a table
many_ground : (ts : List Tag) (n : ℕ)
    → Ground ((t : ℕ) → t < n → count_of t ts ≤ row_bound)
    ((t : ℕ) × (t < n) × (row_bound < count_of t ts)) (number NoRoom)
    (first_of n 0 (many_code ts))
unfolding many_code
many_ground ts n =
    grounds_below (omega arith) (λ t. count_of t ts ≤ row_bound) (λ t. row_bound < count_of t ts) (many_code ts)
    (λ t. ground_lt row_bound (count_of t ts) (number NoRoom)) n

module _ (shape text : List ℕ) (ok : Accepted shape) (f : Forest) (form : Document text f) where
  -- the rows that are taken are those of the text
  taken_exactly : (document_at text (taken true shape) ≡ 0 → ⊥) → Fits shape f
  taken_exactly n =
      let r = document_sound text (taken true shape) n in
      subst (Fits shape) (meaning_unique text r.0 f r.1 form) (taken_fits shape ok no_parent r.0 r.2)

  -- 21
  pub fit_ground : Ground (Fitting shape f) (Misfits shape f) (number UnfitText) (fit_code shape text)
  unfolding fit_code
  fit_ground =
      ground_or _ _ (omega arith) (empty_ground shape)
      (ground_as taken_exactly
      (λ z h. omega (arith, document_complete text (taken true shape) f form (fits_taken shape ok no_parent f h)))
      (ground_eq (document_at text (taken true shape)) 0 (number UnfitText)))

  module _ (fits : Fits shape f) where
    -- what is read off the tags is the catalogue of the rows
    pub converted_is : converted shape text ≡ catalogue_of shape f
    unfolding converted
    converted_is =
        ap (λ (ts : List Tag). encode (contents_from shape ts (tables shape) 0)) (tags_document form)
        ∙ ap encode (sym (contents_standing shape ok f fits))

    -- a table has as many rows as the text has tags of it
    count_is : (t : ℕ) → t < tables shape → length (rows_of shape f t) ≡ count_of t (tags_in text)
    count_is t l = forest_count shape ok f fits t l ∙ ap (count_of t) (sym (tags_document form))

    -- 22
    pub full_ground : (room : ℕ)
        → Ground (Roomy shape room f) (Overfills shape room f) (number NoRoom) (full_code shape text room)
    unfolding full_code
    full_ground room =
        ground_or _ _ (omega arith)
        (ground_as (λ h t l. omega (arith, h t l, count_is t l))
        (λ h. (h.0, h.1, omega (arith, h.2, count_is h.0 h.1)))
        (many_ground (tags_in text) (tables shape)))
        (subst
        (λ (n : ℕ). Ground (length (catalogue_of shape f) ≤ room) (room < length (catalogue_of shape f)) (number NoRoom)
        (if_lt room n (number NoRoom) 0)) (sym (ap length converted_is))
        (ground_lt room (length (catalogue_of shape f)) (number NoRoom)))
