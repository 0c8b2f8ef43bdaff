-- How far the readers of a text go: one that reads something ends behind where it began.
use Prim.Native.Nat.{ℕ, ◌+◌, ◌-◌, ◌≤◌, ◌<◌}
use mathlib.Core.Path.{◌≡◌, refl, sym, ap, ◌∙◌}
use mathlib.Core.Bool.{Bool, true, not}
use mathlib.Core.List.{List}
use native.Mathlib.Decide.{ℕ_discrete, dec_lt}
use native.Mathlib.Omega.{arith}
use lib.Dec.{eqb}
use lib.ListN.{length, drop, get_or-eq_default}
use borrow.Author.Tests.{eqb-false, not-true}
use Rattle.columns.specs.Test.{if_eq}
use Rattle.columns.proofs.Test.{if_eq_yes, if_eq_no}
use Rattle.model.specs.Bytes.{byte_at}
use Rattle.model.specs.Bounds.{missing}
use Rattle.model.specs.First.{first_from}
use Rattle.model.specs.Xml.{is_white, is_quote, column_letter, equals}
use Rattle.model.specs.Form.{is_digit, number_in, skip, digits_end, expect, numeral_at, quoted_at}
use Rattle.model.specs.Form.{attribute_at, is_attribute}
use Rattle.model.proofs.Truth.{is_true, true_is, and_is}
use Rattle.model.proofs.First.{first_from_is}
use Rattle.readers.specs.Stands.{GoesOn}
use Rattle.readers.proofs.Next.{next_read}
use Rattle.scanner.proofs.Read.{pick_read, if_lt_read, if_eq_read, if_ne_read}

-- the first that passes a test, below n and not p, is behind p
moved : (test : ℕ → Bool) (n p : ℕ) → (first_from test (n - p) p ≡ p → ⊥)
    → (p < first_from test (n - p) p) × (first_from test (n - p) p ≤ n)
moved test n p d =
    let f = first_from_is test (n - p) p in
    let low = f.low in
    let high = f.high in
    (omega arith, omega arith)

module _ (s : List ℕ) where
  -- a byte that is not 0 stands in the text
  pub byte_inside : (p : ℕ) → (byte_at s p ≡ 0 → ⊥) → p < length s
  byte_inside p n = at (dec_lt p (length s))
    where
      at : Dec (p < length s) → p < length s
      at (yes l) = l
      at (no l) = absurd (n (get_or-eq_default s 0 (omega arith)))

  -- so does a quote
  pub quote_inside : (p : ℕ) → is_quote (byte_at s p) ≡ true → p < length s
  quote_inside p e = byte_inside p (λ z. eqb-false 0 0 (sym e ∙ ap is_quote z) refl)

  -- white space and digits
  pub skip_low : (p : ℕ) → p ≤ skip s p
  unfolding skip
  skip_low p = (first_from_is (λ i. not (is_white (byte_at s i))) (length s - p) p).low

  skip_inside : (p : ℕ) → (skip s p ≡ p → ⊥) → p < length s
  unfolding skip
  skip_inside p n = let m = moved (λ i. not (is_white (byte_at s i))) (length s) p n in omega arith

  pub digits_on : (p : ℕ) → (digits_end s p ≡ p → ⊥) → (p < digits_end s p) × (digits_end s p ≤ length s)
  unfolding digits_end
  digits_on p n = moved (λ i. not (is_digit (byte_at s i))) (length s) p n

  -- a byte
  pub expect_on : (x p : ℕ) {r : ℕ} → expect s x p ≡ r → (r ≡ 0 → ⊥) → (p < length s) × (r ≡ p + 1)
  unfolding expect
  expect_on x p e n =
      let l = if_lt_read p (length s) _ e n in (l.0, sym (if_eq_read (byte_at s p) x (p + 1) l.1 n).1)

  -- a numeral ends where its digits do
  pub numeral_on : (p : ℕ) {r : ℕ} → numeral_at s p ≡ r → (r ≡ 0 → ⊥)
      → (digits_end s p ≡ r) × ((p < r) × (r ≤ length s))
  unfolding numeral_at
  numeral_on p {r} e n = let d = digits_on p a.0 in (end, (omega (arith, end), omega (arith, end)))
    where
      a : (digits_end s p ≡ p → ⊥)
          × (if_eq (byte_at s p) 48 (if_eq (digits_end s p) (p + 1) (p + 1) 0) (digits_end s p) ≡ r)
      a = if_ne_read (digits_end s p) p _ e n

      at : Dec (byte_at s p ≡ 48) → digits_end s p ≡ r
      at (yes z) =
          let f = if_eq_read (digits_end s p) (p + 1) (p + 1) (sym (if_eq_yes (digits_end s p) z) ∙ a.1) n in f.0 ∙ f.1
      at (no z) = sym (if_eq_no _ z) ∙ a.1

      end : digits_end s p ≡ r
      end = at (ℕ_discrete (byte_at s p) 48)

  -- a value and an attribute
  quoted_on : (p : ℕ) {r : ℕ} → quoted_at s p ≡ r → (r ≡ 0 → ⊥) → p < r
  unfolding quoted_at
  quoted_on p e n =
      let a = pick_read (is_quote (byte_at s p)) _ e n in
      let b = next_read (numeral_at s (p + 1)) _ a.1 n in
      let c = numeral_on (p + 1) refl b.0 in
      let d = if_lt_read (number_in (drop (p + 1) s)) missing _ b.1 n in
      let f = expect_on (byte_at s p) (numeral_at s (p + 1)) d.1 n in
      omega arith

  attribute_on : (p : ℕ) {r : ℕ} → attribute_at s p ≡ r → (r ≡ 0 → ⊥) → p < r
  unfolding attribute_at
  attribute_on p e n =
      let x = expect s column_letter (skip s p) in
      let a = next_read x _ e n in
      let y = numeral_at s x in
      let b = next_read y _ a.1 n in
      let z = expect s equals (skip s y) in
      let c = next_read z _ b.1 n in
      let f = expect_on column_letter (skip s p) refl a.0 in
      let g = numeral_on x refl b.0 in
      let h = expect_on equals (skip s y) refl c.0 in
      omega (arith, skip_low p, skip_low y, skip_low z, quoted_on (skip s z) c.1 n)

  -- attributes one after the other
  pub attributes_go : GoesOn s (is_attribute s) (attribute_at s)
  unfolding is_attribute
  attributes_go = record { inside = inside; onward = λ p r m e n. attribute_on p e n }
    where
      inside : (p : ℕ) → is_attribute s p ≡ true → p < length s
      inside p e =
          let t = ((and_is (not (eqb (skip s p) p)) _).0 (true_is e)).0 in
          skip_inside p (eqb-false (skip s p) p (not-true _ (is_true t)))
