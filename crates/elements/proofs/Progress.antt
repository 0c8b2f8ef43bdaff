-- How far elements and content go: a reader that reads something ends behind where it began.
use Prim.Native.Nat.{ℕ, zero, suc, ◌+◌, ◌≤◌, ◌<◌}
use mathlib.Core.Path.{◌≡◌, refl, sym, ap, ◌∙◌}
use mathlib.Core.Bool.{Bool, true, false}
use mathlib.Core.List.{List, [], ◌∷◌}
use native.Mathlib.Decide.{ℕ_discrete}
use native.Mathlib.Omega.{arith}
use borrow.Author.Tests.{eqb-true}
use lib.Dec.{eqb}
use lib.ListN.{length, drop}
use Rattle.columns.specs.Test.{pick}
use Rattle.columns.proofs.Test.{if_eq_yes, if_eq_no}
use Rattle.model.specs.Bytes.{byte_at}
use Rattle.model.specs.Forest.{Cells}
use Rattle.model.specs.Xml.{open_row, close, less, slash, greater}
use Rattle.model.specs.Form.{cells_in, is_distinct, next, many_in, many, skip, digits_end, expect, word_at, numeral_at}
use Rattle.model.specs.Form.{attribute_at, is_attribute, tag_at, table_of, attributes_of, end_at, rest_at}
use Rattle.model.specs.Form.{is_open, content_by}
use Rattle.model.specs.Form.{element_at}
use Rattle.model.proofs.Truth.{is_true, true_is, and_is}
use Rattle.readers.specs.Stands.{GoesOn}
use Rattle.readers.proofs.Next.{next_read}
use Rattle.scanner.proofs.Read.{pick_read}
use Rattle.scanner.proofs.Progress.{byte_inside, skip_low, expect_on, numeral_on, attributes_go}

-- a reader that goes on, again and again, does not go back
many_in_on : (n : ℕ) (more : ℕ → Bool) (f : ℕ → ℕ)
    → ((p r : ℕ) → more p ≡ true → f p ≡ r → (r ≡ 0 → ⊥) → p < r)
    → (p : ℕ) {r : ℕ} → many_in n more f p ≡ r → (r ≡ 0 → ⊥) → p ≤ r
unfolding many_in
many_in_on zero more f g p e n = omega arith
many_in_on (suc m) more f g p {r} e n = at (more p) refl e (λ q h. many_in_on m more f g q h n)
  where
    at : (t : Bool) → more p ≡ t → pick t (next (f p) (many_in m more f)) p ≡ r
        → ((q : ℕ) → many_in m more f q ≡ r → q ≤ r) → p ≤ r
    at false d h ih = omega arith
    at true d h ih =
        let a = next_read (f p) (many_in m more f) h n in omega (arith, g p (f p) d refl a.0, ih (f p) a.1)

many_on : (s : List ℕ) (more : ℕ → Bool) (f : ℕ → ℕ) → GoesOn s more f
    → (p : ℕ) {r : ℕ} → many s more f p ≡ r → (r ≡ 0 → ⊥) → p ≤ r
many_on s more f g p e n = many_in_on (length s) more f g.onward p e n

module _ (s : List ℕ) where
  -- a word is as long as it is
  word_on : (w : List ℕ) (p : ℕ) {r : ℕ} → word_at s w p ≡ r → (r ≡ 0 → ⊥) → r ≡ p + length w
  unfolding word_at
  word_on [] p e n = omega arith
  word_on (x ∷ w) p e n =
      let a = next_read (expect s x p) (word_at s w) e n in
      omega (arith, expect_on s x p refl a.0, word_on w (expect s x p) a.1 n)

  -- a tag ends behind its name, and the name stands in the text
  pub tag_on : (p : ℕ) {r : ℕ} → tag_at s p ≡ r → (r ≡ 0 → ⊥)
      → (p + 2 < digits_end s (p + 2)) × ((digits_end s (p + 2) ≤ length s) × (p < r))
  unfolding tag_at
  tag_on p e n =
      let w = word_at s open_row p in
      let a = next_read w _ e n in
      let f = word_on open_row p refl a.0 in
      let b = next_read (numeral_at s w) _ a.1 n in
      let g = numeral_on s w refl b.0 in
      let l = many s (is_attribute s) (attribute_at s) (numeral_at s w) in
      let c = next_read l _ b.1 n in
      let h = many_on s (is_attribute s) (attribute_at s) (attributes_go s) (numeral_at s w) refl c.0 in
      let d = pick_read (is_distinct (cells_in (drop w s))) _ c.1 n in
      let i = ap (digits_end s) f in
      (omega arith, (omega arith, omega (arith, skip_low s l, d.1)))

  -- an end tag
  end_on : (name : List ℕ) (p : ℕ) {r : ℕ} → end_at s name p ≡ r → (r ≡ 0 → ⊥) → p < r
  unfolding end_at
  end_on name p e n =
      let a = next_read (word_at s close p) _ e n in
      let b = next_read (word_at s name (word_at s close p)) _ a.1 n in
      let x = word_at s name (word_at s close p) in
      let c = word_on close p refl a.0 in
      let d = word_on name (word_at s close p) refl b.0 in
      omega (arith, skip_low s x, expect_on s greater (skip s x) b.1 n)

  -- content by a reader of elements that goes on
  module _ (element : ℕ → ℕ) (on : (p r : ℕ) → element p ≡ r → (r ≡ 0 → ⊥) → p < r) where
    open_inside : (p : ℕ) → is_open s p ≡ true → p < length s
    unfolding is_open
    open_inside p e =
        let t = ((and_is (eqb (byte_at s p) less) _).0 (true_is e)).0 in
        byte_inside s p (λ z. let f = eqb-true (byte_at s p) less (is_true t) in omega arith)

    elements_on : (p r : ℕ) → is_open s p ≡ true → next (element p) (skip s) ≡ r → (r ≡ 0 → ⊥) → p < r
    elements_on p r m e n =
        let a = next_read (element p) (skip s) e n in
        omega (arith, on p _ refl a.0, skip_low s (element p), a.1)

    elements_go_by : GoesOn s (is_open s) (λ q. next (element q) (skip s))
    elements_go_by = record { inside = open_inside; onward = elements_on }

    content_on : (p : ℕ) {r : ℕ} → content_by s element p ≡ r → (r ≡ 0 → ⊥) → p ≤ r
    unfolding content_by
    content_on p e n =
        omega (
          arith,
          skip_low s p,
          many_on s (is_open s) (λ q. next (element q) (skip s)) elements_go_by
              (skip s p) e n,
        )

    rest_on : (name : List ℕ) (p : ℕ) {r : ℕ} → rest_at s (content_by s element) name p ≡ r → (r ≡ 0 → ⊥) → p < r
    unfolding rest_at
    rest_on name p {r} e n = at (ℕ_discrete (byte_at s p) slash)
      where
        at : Dec (byte_at s p ≡ slash) → p < r
        at (yes z) = omega (arith, expect_on s greater (p + 1) (sym (if_eq_yes _ z) ∙ e) n)
        at (no z) =
            let a = next_read (expect s greater p) _ (sym (if_eq_no _ z) ∙ e) n in
            let x = content_by s element (expect s greater p) in
            let b = next_read x (end_at s name) a.1 n in
            omega (
              arith,
              expect_on s greater p refl a.0,
              content_on (expect s greater p) refl b.0,
              end_on name x b.1 n,
            )

  module _ (fits : ℕ → ℕ → Cells → Bool) where
    element_on : (d up p : ℕ) {r : ℕ} → element_at s fits d up p ≡ r → (r ≡ 0 → ⊥) → p < r
    unfolding element_at
    element_on zero up p e n = absurd (n (sym e))
    element_on (suc d) up p e n =
        let a = next_read (tag_at s p) _ e n in
        let b = pick_read (fits up (table_of s p) (attributes_of s p)) _ a.1 n in
        let t = tag_on p refl a.0 in
        let u = table_of s p in
        omega (arith, rest_on (element_at s fits d u) (λ q r h z. element_on d u q h z) _ (tag_at s p) b.1 n)

    -- elements one after the other
    pub elements_go : (d up : ℕ) → GoesOn s (is_open s) (λ q. next (element_at s fits d up q) (skip s))
    elements_go d up = elements_go_by (element_at s fits d up) (λ p r e n. element_on d up p e n)
