-- Content one element at a time: none, one more, and one that fails; where a tag is open; and content up to an end
-- tag.
use Prim.Native.Nat.{ℕ, ◌+◌, ◌<◌}
use mathlib.Core.Path.{◌≡◌, refl, sym, ap, subst, ◌∙◌}
use mathlib.Core.Bool.{true, false, ◌&&◌, not}
use mathlib.Core.List.{List, [], ◌∷◌, ◌++◌}
use native.Mathlib.Omega.{arith}
use lib.Dec.{eqb}
use lib.ListN.{length}
use Rattle.model.specs.Bytes.{byte_at}
use Rattle.model.specs.Forest.{Cells, Forest}
use Rattle.model.specs.Xml.{is_white, White, Element, empty, filled, less, slash, greater, close, row_letter}
use Rattle.model.specs.Form.{next, many, skip, is_open, content_by}
use Rattle.readers.specs.Stands.{Stands, GoesOn}
use Rattle.readers.proofs.Next.{next_none}
use Rattle.readers.proofs.Many.{many_done, many_more, many_fails}
use Rattle.spelling.proofs.Stands.{stands_cut, stands_byte, stands_rest, stands_grows}
use Rattle.spelling.proofs.Small.{next_is, skip_complete, skip_le}

-- the two bytes that tell whether a tag is open
open_by : {s : List ℕ} {p x y : ℕ} {w : List ℕ} {q : ℕ} → Stands s p (x ∷ y ∷ w) q
    → is_open s p ≡ eqb x less && not (eqb y slash)
unfolding is_open
open_by {s} {p} {x} {y} h =
    ap (λ (z : ℕ). eqb z less && not (eqb (byte_at s (p + 1)) slash)) (stands_byte h)
    ∙ ap (λ (z : ℕ). eqb x less && not (eqb z slash)) (stands_byte (stands_rest h))

-- an element begins with `<t`
element_begins : {d : ℕ} {l : List ℕ} {n : ℕ} {cells : Cells} {inside : Forest} → Element d l n cells inside
    → (r : List ℕ) × (l ≡ less ∷ row_letter ∷ r)
element_begins (empty o w h) = (_, refl)
element_begins (filled o w h c u i) = (_, refl)

-- white space, an element and what follows, cut: the white space ends where the element's tag is open
pub element_cut : (s : List ℕ) (p q : ℕ) (w l rest : List ℕ) {d n : ℕ} {cells : Cells} {inside : Forest} → White w
    → Element d l n cells inside → Stands s p (w ++ (l ++ rest)) q
    → (a : ℕ) × (b : ℕ) × (skip s p ≡ a) × (is_open s a ≡ true) × Stands s a l b × Stands s b rest q × (p < b)
element_cut s p q w l rest h o e =
    let a = p + length w in
    let b = a + length l in
    let first = stands_cut s p w (l ++ rest) q e in
    let second = stands_cut s a l rest q first.1 in
    let begins = element_begins o in
    let opens = subst (λ (k : List ℕ). Stands s a k b) begins.1 second.0 in
    let grows = stands_grows opens in (
      a,
      b,
      skip_complete first.0 h (ap is_white (stands_byte opens)),
      open_by opens,
      second.0,
      second.1,
      omega arith,
    )

-- `>`, content and an end tag, cut: where the content ends there is no white space, and no tag is open
pub content_cut : (s : List ℕ) (a : ℕ) (inner rest : List ℕ) (q : ℕ)
    → Stands s a (greater ∷ (inner ++ (close ++ rest))) q
    → (c : ℕ) × Stands s a (greater ∷ []) (a + 1) × Stands s (a + 1) inner c × Stands s c (close ++ rest) q
    × (is_white (byte_at s c) ≡ false) × (is_open s c ≡ false)
content_cut s a inner rest q h =
    let first = stands_cut s a (greater ∷ []) (inner ++ (close ++ rest)) q h in
    let second = stands_cut s (a + 1) inner (close ++ rest) q first.1 in (
      a + 1 + length inner,
      first.0,
      second.0,
      second.1,
      ap is_white (stands_byte second.1),
      open_by second.1,
    )

module _ (s : List ℕ) (element : ℕ → ℕ) (g : GoesOn s (is_open s) (λ q. next (element q) (skip s))) where
  -- an element and the white space behind it
  abbrev spaced : ℕ → ℕ
  spaced q = next (element q) (skip s)

  from : (p : ℕ) {r : ℕ} → skip s p ≡ r → content_by s element p ≡ many s (is_open s) spaced r
  unfolding content_by
  from p e = ap (λ (q : ℕ). many s (is_open s) spaced q) e

  -- no tag is open: the content is white space alone
  pub content_done : (p : ℕ) {r : ℕ} → skip s p ≡ r → is_open s r ≡ false → content_by s element p ≡ r
  content_done p e o = from p e ∙ many_done s (is_open s) spaced g o

  -- a tag is open and no element is read
  pub content_fails : (p : ℕ) {r : ℕ} → skip s p ≡ r → is_open s r ≡ true → element r ≡ 0 → content_by s element p ≡ 0
  content_fails p e o z = from p e ∙ many_fails s (is_open s) spaced g o (next_none (skip s) z)

  -- a tag is open: an element, and content from its end on
  pub content_more : (p : ℕ) {r a : ℕ} → skip s p ≡ r → is_open s r ≡ true → element r ≡ a → (a ≡ 0 → ⊥)
      → content_by s element p ≡ content_by s element a
  content_more p {r} {a} e o z n =
      from p e
      ∙ (many_more s (is_open s) spaced g o (next_is (skip s) z n refl) (λ y. n (omega (arith, skip_le s a)))
      ∙ sym (from a refl))
