-- The bytes of a tag: quotes, and attributes one after the other.
use Prim.Native.Nat.{ℕ, ◌+◌, ◌≤◌, ◌<◌}
use mathlib.Core.Path.{◌≡◌, refl, sym, ap, ap₂, ◌∙◌}
use mathlib.Core.Bool.{Bool}
use mathlib.Core.List.{List, [], ◌∷◌}
use native.Mathlib.Numerals.{add-one}
use native.Mathlib.Omega.{arith}
use lib.Dec.{eqb}
use lib.ListN.{length, drop, get_or, drop_of_length-le}
use lib.Seq.{drop-cons}
use borrow.Author.Tests.{eq-eqb, ne_eqb}
use Rattle.columns.specs.Test.{pick}
use Rattle.columns.proofs.Test.{if_lt_yes}
use Rattle.model.specs.Bounds.{missing}
use Rattle.model.specs.Forest.{Cells}
use Rattle.model.specs.Xml.{is_quote, greater, column_letter}
use Rattle.model.specs.Form.{number_in, capped, quoted_in, cells_in}
use Rattle.attributes.specs.Tags.{cells_at, NextAttribute}

-- the text from i on: the byte at i and the text from i + 1 on
from : (s : List ℕ) (i : ℕ) → i < length s → drop i s ≡ get_or s i 0 ∷ drop (i + 1) s
from s i h = rw (add-one, drop-cons s i 0)

-- the number behind the first quote, by the byte at i
module _ (s : List ℕ) (i : ℕ) where
  pub quoted_by : {t : Bool} → i < length s → is_quote (get_or s i 0) ≡ t
      → quoted_in (drop i s) ≡ pick t (number_in (drop (i + 1) s)) (quoted_in (drop (i + 1) s))
  unfolding quoted_in
  quoted_by h e =
      ap quoted_in (from s i h) ∙ ap (λ (b : Bool). pick b (number_in (drop (i + 1) s)) (quoted_in (drop (i + 1) s))) e

  pub quoted_none : length s ≤ i → 0 ≡ capped (quoted_in (drop i s))
  unfolding quoted_in capped
  quoted_none h = rw (drop_of_length-le s h) (sym (if_lt_yes missing (omega arith)))

-- the attributes by the byte at i: the end of the tag, the letter of an attribute, and another byte
module _ (s : List ℕ) (i : ℕ) where
  by_tests : {t u : Bool} → i < length s → eqb (get_or s i 0) greater ≡ t → eqb (get_or s i 0) column_letter ≡ u
      → cells_in (drop i s) ≡ pick t [] (pick u (cells_at s (i + 1)) (cells_in (drop (i + 1) s)))
  unfolding cells_in
  by_tests h p q =
      ap cells_in (from s i h)
      ∙ ap₂ (λ (t u : Bool). pick {A = Cells} t [] (pick u (cells_at s (i + 1)) (cells_in (drop (i + 1) s)))) p q

  pub cells_ended : i < length s → get_or s i 0 ≡ greater → cells_in (drop i s) ≡ []
  cells_ended h e = by_tests h (eq-eqb _ greater e) refl

  pub cells_one : i < length s → get_or s i 0 ≡ column_letter → cells_in (drop i s) ≡ cells_at s (i + 1)
  cells_one h e = by_tests h (ne_eqb (get_or s i 0) greater (λ f. omega arith)) (eq-eqb _ column_letter e)

  pub cells_passed : i < length s → (get_or s i 0 ≡ greater → ⊥) → (get_or s i 0 ≡ column_letter → ⊥)
      → cells_in (drop i s) ≡ cells_in (drop (i + 1) s)
  cells_passed h m n = by_tests h (ne_eqb _ greater m) (ne_eqb _ column_letter n)

  pub cells_past : length s ≤ i → cells_in (drop i s) ≡ []
  unfolding cells_in
  cells_past h = ap cells_in (drop_of_length-le s h)

-- a loop over the attributes of a tag: what is asked of those from q on is asked of all
module _ {A : Type 0} (value : Cells → A) (s : List ℕ) (q : ℕ) {whole : A} where
  pub passing_at : {r : ℕ} → NextAttribute s q r → value (cells_in (drop q s)) ≡ whole → value (cells_at s r) ≡ whole
  passing_at n e = sym (ap value n.same) ∙ e

  pub passing_done : cells_in (drop q s) ≡ [] → value (cells_in (drop q s)) ≡ whole → value [] ≡ whole
  passing_done n e = sym (ap value n) ∙ e
