-- An element that is read ends behind where it begins, and content no earlier: so a reader of elements, each with the
-- white space behind it, goes on through the text.
use Prim.Native.Nat.{ℕ, zero, suc, ◌+◌, ◌≤◌, ◌<◌}
use mathlib.Core.Path.{◌≡◌, refl, sym, ◌∙◌}
use mathlib.Core.Bool.{Bool, true, false, not}
use mathlib.Core.List.{List}
use native.Mathlib.Decide.{dec_lt}
use native.Mathlib.Omega.{arith}
use lib.Dec.{eqb, eqb→eq}
use lib.ListN.{length, get_or-eq_default}
use Rattle.columns.specs.Test.{pick}
use Rattle.model.specs.Bytes.{byte_at}
use Rattle.model.specs.Forest.{Cells}
use Rattle.model.specs.Xml.{less, slash}
use Rattle.model.specs.Form.{next, many_in, skip, tag_at, table_of, attributes_of, name_of, rest_at, is_open}
use Rattle.model.specs.Form.{content_by}
use Rattle.model.specs.Form.{element_at}
use Rattle.model.proofs.Truth.{and_is, true_is}
use Rattle.readers.specs.Stands.{GoesOn}
use Rattle.readers.proofs.Next.{next_read}
use Rattle.spelling.proofs.Stands.{stands_grows}
use Rattle.spelling.proofs.Small.{skip_le}
use Rattle.grammar.proofs.Tag.{tag_read, pick_read}
use Rattle.grammar.proofs.Rest.{Rest, ended, around, rest_read}

-- a reader that goes on each time does not go back
many_onward : (n : ℕ) (more : ℕ → Bool) (f : ℕ → ℕ) → ((p r : ℕ) → f p ≡ r → (r ≡ 0 → ⊥) → p < r)
    → (p : ℕ) {q : ℕ} → many_in n more f p ≡ q → (q ≡ 0 → ⊥) → p ≤ q
unfolding many_in
many_onward zero more f g p e n = omega arith
many_onward (suc k) more f g p {q} e n = at (more p) e (λ h. many_onward k more f g (f p) h n)
  where
    at : (t : Bool) → pick t (next (f p) (many_in k more f)) p ≡ q → (many_in k more f (f p) ≡ q → f p ≤ q) → p ≤ q
    at false h ih = omega arith
    at true h ih =
        let r = next_read (f p) (many_in k more f) h n in
        let i = ih r.1 in
        let j = g p (f p) refl r.0 in
        omega arith

-- an element and the white space behind it
spaced_onward : (s : List ℕ) (element : ℕ → ℕ) → ((p r : ℕ) → element p ≡ r → (r ≡ 0 → ⊥) → p < r)
    → (p r : ℕ) → next (element p) (skip s) ≡ r → (r ≡ 0 → ⊥) → p < r
spaced_onward s element g p r e n =
    let h = next_read (element p) (skip s) e n in
    let l = g p (element p) refl h.0 in
    omega (arith, skip_le s (element p))

-- content, and the rest of an element
content_onward : (s : List ℕ) (element : ℕ → ℕ) → ((p r : ℕ) → element p ≡ r → (r ≡ 0 → ⊥) → p < r)
    → (p q : ℕ) → content_by s element p ≡ q → (q ≡ 0 → ⊥) → p ≤ q
unfolding content_by
content_onward s element g p q e n =
    let h = many_onward (length s) (is_open s) _ (spaced_onward s element g) (skip s p) e n in
    omega (arith, skip_le s p)

rest_onward : {s : List ℕ} {inside : ℕ → ℕ} {name : List ℕ} {p q : ℕ}
    → ((b c : ℕ) → inside b ≡ c → (c ≡ 0 → ⊥) → b ≤ c) → Rest s inside name p q → p < q
rest_onward g (ended h) = stands_grows h
rest_onward g (around b c h i n u w e) =
    let j = g b c i n in
    let k = stands_grows h in
    let l = stands_grows e in
    omega arith

-- no element is read at depth 0
pub no_depth : (s : List ℕ) (fits : ℕ → ℕ → Cells → Bool) (up p : ℕ) → element_at s fits zero up p ≡ 0
unfolding element_at
no_depth s fits up p = refl

-- what was read where an element is: its tag, which is one to be taken, and the rest
pub element_parts : (s : List ℕ) (fits : ℕ → ℕ → Cells → Bool) (d up p : ℕ) {q : ℕ}
    → element_at s fits (suc d) up p ≡ q → (q ≡ 0 → ⊥)
    → (tag_at s p ≡ 0 → ⊥) × (fits up (table_of s p) (attributes_of s p) ≡ true)
    × Rest s (content_by s (element_at s fits d (table_of s p))) (name_of s p) (tag_at s p) q
unfolding element_at
element_parts s fits d up p e n =
    let first = next_read (tag_at s p) _ e n in
    let inside = content_by s (element_at s fits d (table_of s p)) in
    let last =
    pick_read (fits up (table_of s p) (attributes_of s p)) (rest_at s inside (name_of s p) (tag_at s p)) first.1 n in
    (first.0, last.0, rest_read s inside (name_of s p) (tag_at s p) last.1 n)

-- where an element is read, that goes on
pub element_onward : (s : List ℕ) (fits : ℕ → ℕ → Cells → Bool) (d up p q : ℕ) → element_at s fits d up p ≡ q
    → (q ≡ 0 → ⊥) → p < q
element_onward s fits zero up p q e n = absurd (n (sym e ∙ no_depth s fits up p))
element_onward s fits (suc d) up p q e n =
    let h = element_parts s fits d up p e n in
    let t = stands_grows (tag_read s p refl h.0).2.stands in
    let within = content_onward s (element_at s fits d (table_of s p)) (element_onward s fits d (table_of s p)) in
    let r = rest_onward within h.2 in
    omega arith

-- an open tag is inside the text
open_inside : (s : List ℕ) (p : ℕ) → is_open s p ≡ true → p < length s
unfolding is_open
open_inside s p e = at (dec_lt p (length s))
  where
    at : Dec (p < length s) → p < length s
    at (yes l) = l
    at (no l) =
        let t = (and_is (eqb (byte_at s p) less) (not (eqb (byte_at s (p + 1)) slash))).0 (true_is e) in
        let b = eqb→eq (byte_at s p) less t.0 in
        let z = get_or-eq_default s 0 {n = p} (omega arith) in
        absurd (omega arith)

-- so a reader of elements goes on through the text
pub element_goes_on : (s : List ℕ) (fits : ℕ → ℕ → Cells → Bool) (d up : ℕ)
    → GoesOn s (is_open s) (λ q. next (element_at s fits d up q) (skip s))
element_goes_on s fits d up =
    record {
      inside = open_inside s;
      onward = λ p r t. spaced_onward s (element_at s fits d up) (element_onward s fits d up) p r;
    }
