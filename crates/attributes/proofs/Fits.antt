-- A tag that fits a shape, test by test.
use Prim.Native.Nat.{ℕ, ◌≤◌, ◌<◌}
use mathlib.Core.Path.{◌≡◌, refl, sym, ap, ap₂, ◌∙◌}
use mathlib.Core.Bool.{Bool, false, ◌&&◌}
use mathlib.Core.List.{List}
use native.Mathlib.Omega.{arith}
use lib.Dec.{eqb, ltb}
use lib.ListN.{drop}
use borrow.Author.Tests.{lt-ltb, le-ltb, eq-eqb, ne_eqb}
use Rattle.model.specs.Bounds.{missing}
use Rattle.model.specs.Forest.{Cells}
use Rattle.model.specs.Form.{number_in, capped, cells_in}
use Rattle.model.specs.Catalogue.{tables, columns, parent}
use Rattle.model.specs.Convert.{are_below, fits_tag}
use Rattle.attributes.specs.Tags.{cells_at}
use Rattle.attributes.proofs.Digits.{capped_is, capped_least}

-- the attribute at p is of a column below c, or it is not
module _ (s : List ℕ) (p c : ℕ) {r : ℕ} (e : r ≡ capped (number_in (drop p s))) (m : c ≤ missing) where
  pub above : c ≤ r → are_below c (cells_at s p) ≡ false
  unfolding are_below
  above h = ap (λ (b : Bool). b && are_below c (cells_in (drop p s))) (le-ltb _ c (capped_least e m h))

  pub below : r < c → are_below c (cells_at s p) ≡ are_below c (cells_in (drop p s))
  unfolding are_below
  below h =
      ap (λ (b : Bool). b && are_below c (cells_in (drop p s)))
      (lt-ltb _ c (omega (arith, capped_is e (omega arith))))

-- the table, read as r, is not of the shape, has another parent, or the columns decide
module _ (shape : List ℕ) (up n : ℕ) (cs : Cells) {r : ℕ} (e : r ≡ n) where
  fits_by : {a b : Bool} → ltb n (tables shape) ≡ a → eqb (parent shape n) up ≡ b
      → fits_tag shape up n cs ≡ a && b && are_below (columns shape n) cs
  unfolding fits_tag
  fits_by p q = ap₂ (λ (a b : Bool). a && b && are_below (columns shape n) cs) p q

  pub fits_no_table : tables shape ≤ r → false ≡ fits_tag shape up n cs
  fits_no_table h = sym (fits_by (le-ltb n _ (omega arith)) refl)

  module _ {q : ℕ} (h : r < tables shape) (f : q ≡ parent shape r) where
    pub fits_no_place : (q ≡ up → ⊥) → false ≡ fits_tag shape up n cs
    fits_no_place k =
        sym (fits_by (lt-ltb n _ (omega arith)) (ne_eqb _ up (λ g. k (f ∙ ap (parent shape) e ∙ g))))

    pub fits_columns : {c : ℕ} {b : Bool} → q ≡ up → c ≡ columns shape r → b ≡ are_below c cs
        → b ≡ fits_tag shape up n cs
    fits_columns k g a =
        a ∙ ap (λ (c : ℕ). are_below c cs) (g ∙ ap (columns shape) e)
        ∙ sym (fits_by (lt-ltb n _ (omega arith)) (eq-eqb _ up (sym (f ∙ ap (parent shape) e) ∙ k)))
