-- The tags of a text from a position on, byte by byte.
use Prim.Native.Nat.{ℕ, zero, suc, ◌+◌, ◌≤◌, ◌<◌}
use mathlib.Core.Path.{◌≡◌, refl, sym, ap, subst, ◌∙◌}
use mathlib.Core.Bool.{Bool, true, false, ◌&&◌}
use mathlib.Core.List.{List, [], ◌∷◌}
use native.Mathlib.Nat.{add-zero}
use native.Mathlib.Numerals.{add-one}
use native.Mathlib.Decide.{dec_lt}
use native.Mathlib.Omega.{arith}
use borrow.Author.Tests.{eq-eqb, ne_eqb}
use lib.Dec.{eqb}
use lib.ListN.{length, drop, get_or, drop_of_length-le, get_or-eq_default}
use lib.Seq.{drop-cons, get_or-drop, drop-drop}
use Rattle.columns.specs.Test.{pick}
use Rattle.model.specs.Bytes.{byte_at}
use Rattle.model.specs.Xml.{less, row_letter}
use Rattle.model.specs.Form.{number_in, cells_in}
use Rattle.model.specs.Convert.{Tag, tags_in}
use Rattle.tags.specs.Next.{is_tag, Without, Passed, NextLess, NextTag}

-- the tags from i on: the one that begins there, if there is one, and those behind
from_byte : (s : List ℕ) (i : ℕ) → i < length s
    → tags_in (drop i s)
    ≡ pick (is_tag s i) ((number_in (drop (i + 2) s), cells_in (drop (i + 2) s)) ∷ tags_in (drop (i + 1) s))
    (tags_in (drop (i + 1) s))
unfolding tags_in
from_byte s i l =
    let a : drop i s ≡ byte_at s i ∷ drop (i + 1) s = rw add-one (drop-cons s i 0 l) in
    let m : i + 1 + 0 ≡ i + 1 = omega arith in
    let n : i + 1 + 1 ≡ i + 2 = omega arith in
    let b : get_or (drop (i + 1) s) 0 0 ≡ byte_at s (i + 1) =
    get_or-drop (i + 1) s 0 0 ∙ ap (λ (k : ℕ). byte_at s k) m in
    let d : drop 1 (drop (i + 1) s) ≡ drop (i + 2) s = drop-drop 1 (i + 1) s ∙ ap (λ (k : ℕ). drop k s) n in
    ap tags_in a
    ∙ (ap (λ (x : ℕ). pick (eqb (byte_at s i) less && eqb x row_letter)
    ((number_in (drop 1 (drop (i + 1) s)), cells_in (drop 1 (drop (i + 1) s))) ∷ tags_in (drop (i + 1) s))
    (tags_in (drop (i + 1) s))) b
    ∙ ap (λ (l : List ℕ). pick (is_tag s i) ((number_in l, cells_in l) ∷ tags_in (drop (i + 1) s))
    (tags_in (drop (i + 1) s))) d)

no_tag : (s : List ℕ) (i : ℕ) → i < length s → is_tag s i ≡ false → tags_in (drop i s) ≡ tags_in (drop (i + 1) s)
no_tag s i l e =
    from_byte s i l
    ∙ ap (λ (t : Bool). pick t ((number_in (drop (i + 2) s), cells_in (drop (i + 2) s)) ∷ tags_in (drop (i + 1) s))
    (tags_in (drop (i + 1) s))) e

-- no tag begins at another byte, nor where another byte follows; and one where both stand
other_byte : (s : List ℕ) (i : ℕ) → (byte_at s i ≡ less → ⊥) → is_tag s i ≡ false
other_byte s i n = ap (λ (t : Bool). t && eqb (byte_at s (i + 1)) row_letter) (ne_eqb (byte_at s i) less n)

other_second : (s : List ℕ) (i : ℕ) → byte_at s i ≡ less → (byte_at s (i + 1) ≡ row_letter → ⊥) → is_tag s i ≡ false
other_second s i e n =
    ap (λ (t : Bool). t && eqb (byte_at s (i + 1)) row_letter) (eq-eqb (byte_at s i) less e)
    ∙ ne_eqb (byte_at s (i + 1)) row_letter n

both_bytes : (s : List ℕ) (i : ℕ) → byte_at s i ≡ less → byte_at s (i + 1) ≡ row_letter → is_tag s i ≡ true
both_bytes s i e f =
    ap (λ (t : Bool). t && eqb (byte_at s (i + 1)) row_letter) (eq-eqb (byte_at s i) less e)
    ∙ eq-eqb (byte_at s (i + 1)) row_letter f

-- a byte that is not 0 is inside the text
inside : (s : List ℕ) (i : ℕ) → (byte_at s i ≡ 0 → ⊥) → i < length s
inside s i n = at (dec_lt i (length s))
  where
    at : Dec (i < length s) → i < length s
    at (yes l) = l
    at (no m) = absurd (n (get_or-eq_default s 0 (omega arith)))

-- no tag has begun: at first, a byte further, and a block further
pub passed_none : (s : List ℕ) (p : ℕ) → Passed s p p
passed_none s p = record { low = omega arith; same = refl }

pub passed_more : (s : List ℕ) (p i : ℕ) → Passed s p i → i < length s → (byte_at s i ≡ less → ⊥) → Passed s p (i + 1)
passed_more s p i g l n =
    let low = g.low in record { low = omega arith; same = g.same ∙ no_tag s i l (other_byte s i n) }

pub passed_block : (s : List ℕ) (p i n : ℕ) → Passed s p i → i + n ≤ length s → Without s i n → Passed s p (i + n)
passed_block s p i zero g l w = subst (λ (k : ℕ). Passed s p k) (sym (add-zero i)) g
passed_block s p i (suc n) g l w =
    let back = passed_block s p i n g (omega arith) (λ k h. w k (omega arith)) in
    subst (λ (k : ℕ). Passed s p k) (omega arith) (passed_more s p (i + n) back (omega arith) (w n (omega arith)))

-- the first `<`
pub passed_less : (s : List ℕ) (p i : ℕ) → Passed s p i → i < length s → byte_at s i ≡ less → NextLess s p i
passed_less s p i g l e = record { low = g.low; within = l; same = g.same; here = e }

-- from one `<` that begins no tag to the next
pub less_more : (s : List ℕ) (p q i : ℕ) → Passed s p q → NextLess s q i → (byte_at s (i + 1) ≡ row_letter → ⊥)
    → Passed s p (i + 1)
less_more s p q i g f n =
    record {
      low = omega (arith, g.low, f.low);
      same = g.same ∙ (f.same ∙ no_tag s i f.within (other_second s i f.here n));
    }

pub less_tag : (s : List ℕ) (p q i : ℕ) → Passed s p q → NextLess s q i → byte_at s (i + 1) ≡ row_letter
    → NextTag s p (i + 2)
less_tag s p q i g f h =
    let e = both_bytes s i f.here h in
    let two : i + 1 + 1 ≡ i + 2 = omega arith in
    let second : i + 1 < length s = inside s (i + 1) (λ z. omega arith) in
    record {
      behind = omega (arith, g.low, f.low);
      within = omega arith;
      begins = g.same ∙ f.same ∙ ap (λ (k : ℕ). tags_in (drop k s)) (omega arith);
      same = g.same ∙ (f.same ∙ (from_byte s i f.within
          ∙ (ap (λ (t : Bool). pick t
          ((number_in (drop (i + 2) s), cells_in (drop (i + 2) s)) ∷ tags_in (drop (i + 1) s))
          (tags_in (drop (i + 1) s))) e
          ∙ ap (λ (ts : List Tag). (number_in (drop (i + 2) s), cells_in (drop (i + 2) s)) ∷ ts)
          (no_tag s (i + 1) second (other (byte_at s (i + 1)) h) ∙ ap (λ (k : ℕ). tags_in (drop k s)) two))));
    }
  where
    other : (x : ℕ) → x ≡ row_letter → eqb x less && eqb (byte_at s (i + 1 + 1)) row_letter ≡ false
    other x h = ap (λ (y : ℕ). eqb y less && eqb (byte_at s (i + 1 + 1)) row_letter) h

-- behind the end there is none
pub no_tags : (s : List ℕ) (i : ℕ) → length s ≤ i → tags_in (drop i s) ≡ []
unfolding tags_in
no_tags s i l = ap tags_in (drop_of_length-le s l)
