-- Numbers by their digits, one after the other.
use Prim.Native.Nat.{ℕ, ◌+◌, ◌-◌, ◌*◌, ◌≤◌, ◌<◌}
use mathlib.Core.Path.{◌≡◌, refl, sym, ap, ap₂, ◌∙◌}
use mathlib.Core.Bool.{Bool, true, false, ◌&&◌}
use mathlib.Core.List.{List, [], ◌∷◌}
use native.Mathlib.Decide.{dec_lt, dec_le}
use native.Mathlib.Omega.{arith}
use lib.Dec.{leb}
use lib.ListN.{length, get_or, drop, drop_of_length-le, get_or-eq_default}
use lib.Seq.{drop-cons, drop-drop}
use borrow.Author.Tests.{le-leb, lt-leb}
use Rattle.columns.specs.Test.{pick}
use Rattle.columns.proofs.Test.{if_lt_yes, if_lt_no}
use Rattle.model.specs.Bounds.{missing}
use Rattle.model.specs.Form.{is_digit, number_from, number_in, capped}
use Rattle.attributes.specs.Digits.{digit_in}

pub digit_past : (s : List ℕ) (i : ℕ) → length s ≤ i → digit_in (drop i s) ≡ 10
unfolding digit_in
digit_past s i h = ap digit_in (drop_of_length-le s h)

digit_here : (s : List ℕ) (i : ℕ) → i < length s
    → digit_in (drop i s) ≡ pick (is_digit (get_or s i 0)) (get_or s i 0 - 48) 10
unfolding digit_in
digit_here s i h = ap digit_in (drop-cons s i 0 h)

-- the digit at a position, by the byte there: 10 past the end and for a byte that is none
digit_by : (s : List ℕ) (i : ℕ) → digit_in (drop i s) ≡ pick (is_digit (get_or s i 0)) (get_or s i 0 - 48) 10
digit_by s i = at (dec_lt i (length s))
  where
    at : Dec (i < length s) → digit_in (drop i s) ≡ pick (is_digit (get_or s i 0)) (get_or s i 0 - 48) 10
    at (yes l) = digit_here s i l
    at (no l) =
        digit_past s i (omega arith)
        ∙ sym (ap (λ (x : ℕ). pick (is_digit x) (x - 48) 10) (get_or-eq_default s 0 (omega arith)))

module _ (s : List ℕ) (i : ℕ) where
  pub digit_low : get_or s i 0 < 48 → digit_in (drop i s) ≡ 10
  digit_low l =
      digit_by s i ∙ ap (λ (b : Bool). pick (b && leb (get_or s i 0) 57) (get_or s i 0 - 48) 10) (lt-leb 48 _ l)

  pub digit_high : 57 < get_or s i 0 → digit_in (drop i s) ≡ 10
  digit_high l =
      digit_by s i
      ∙ ap (λ (b : Bool). pick b (get_or s i 0 - 48) 10)
      (ap₂ ◌&&◌ (le-leb 48 (get_or s i 0) (omega arith)) (lt-leb _ 57 l))

  pub digit_is : 48 ≤ get_or s i 0 → get_or s i 0 ≤ 57 → get_or s i 0 - 48 ≡ digit_in (drop i s)
  digit_is l m =
      sym (digit_by s i
      ∙ ap (λ (b : Bool). pick b (get_or s i 0 - 48) 10) (ap₂ ◌&&◌ (le-leb 48 _ l) (le-leb _ 57 m)))

-- a digit stands before the end
pub digit_within : (s : List ℕ) (i : ℕ) → digit_in (drop i s) < 10 → i < length s
digit_within s i h = at (dec_lt i (length s))
  where
    at : Dec (i < length s) → i < length s
    at (yes l) = l
    at (no l) = absurd (omega (arith, digit_past s i (omega arith)))

-- a digit is below 10
pub digit_small : (x : ℕ) → pick (is_digit x) (x - 48) 0 ≤ 9
digit_small x = at (leb 48 x) (dec_le x 57)
  where
    at : (t : Bool) → Dec (x ≤ 57) → pick (t && leb x 57) (x - 48) 0 ≤ 9
    at false d = omega arith
    at true (yes h) = rw (le-leb x 57 h) (omega arith)
    at true (no h) = rw (lt-leb x 57 (omega arith)) (omega arith)

pub digit_most : (l : List ℕ) → digit_in l ≤ 10
unfolding digit_in
digit_most [] = omega arith
digit_most (x ∷ l) = at (is_digit x) (digit_small x)
  where
    at : (t : Bool) → pick t (x - 48) 0 ≤ 9 → pick t (x - 48) 10 ≤ 10
    at true h = omega arith
    at false h = omega arith

-- a number by its first digit, and without one
pub number_step : (n : ℕ) (l : List ℕ) → digit_in l < 10
    → number_from n l ≡ number_from (10 * n + digit_in l) (drop 1 l)
unfolding digit_in number_from
number_step n [] h = absurd (omega arith)
number_step n (x ∷ l) h = at (is_digit x) h
  where
    at : (t : Bool) → pick t (x - 48) 10 < 10
        → pick t (number_from (10 * n + (x - 48)) l) n ≡ number_from (10 * n + pick t (x - 48) 10) l
    at true m = refl
    at false m = absurd (omega arith)

pub number_digit : (n : ℕ) (s : List ℕ) (i : ℕ) {d : ℕ} → d ≡ digit_in (drop i s) → d < 10
    → number_from (10 * n + d) (drop (i + 1) s) ≡ number_from n (drop i s)
number_digit n s i e h =
    ap₂ (λ (x : ℕ) (l : List ℕ). number_from (10 * n + x) l) e (sym (drop-drop 1 i s))
    ∙ sym (number_step n (drop i s) (omega arith))

pub number_ended : (n : ℕ) (l : List ℕ) → 10 ≤ digit_in l → number_from n l ≡ n
unfolding digit_in number_from
number_ended n [] h = refl
number_ended n (x ∷ l) h = at (is_digit x) (digit_small x) h
  where
    at : (t : Bool) → pick t (x - 48) 0 ≤ 9 → 10 ≤ pick t (x - 48) 10
        → pick t (number_from (10 * n + (x - 48)) l) n ≡ n
    at true k m = absurd (omega arith)
    at false k m = refl

-- a number is at least what was read of it
pub number_least : (n : ℕ) (l : List ℕ) → n ≤ number_from n l
unfolding number_from
number_least n [] = omega arith
number_least n (x ∷ l) = at (is_digit x) (number_least (10 * n + (x - 48)) l)
  where
    at : (t : Bool) → 10 * n + (x - 48) ≤ number_from (10 * n + (x - 48)) l
        → n ≤ pick t (number_from (10 * n + (x - 48)) l) n
    at true h = omega arith
    at false h = omega arith

-- a number below the cap, and one from it on
pub capped_small : {n : ℕ} → n < missing → n ≡ capped n
unfolding capped
capped_small {n} h = sym (if_lt_yes missing h)

capped_large : {n : ℕ} → missing ≤ n → missing ≡ capped n
unfolding capped
capped_large {n} h = sym (if_lt_no n h)

-- what a capped number tells: it is the number, or that is as large
pub capped_is : {r n : ℕ} → r ≡ capped n → r < missing → n ≡ r
capped_is {r} {n} e h = at (dec_lt n missing)
  where
    at : Dec (n < missing) → n ≡ r
    at (yes l) = capped_small l ∙ sym e
    at (no l) = absurd (omega (arith, capped_large {n = n} (omega arith)))

pub capped_least : {r n k : ℕ} → r ≡ capped n → k ≤ missing → k ≤ r → k ≤ n
capped_least {r} {n} {k} e m h = at (dec_lt n missing)
  where
    at : Dec (n < missing) → k ≤ n
    at (yes l) = omega (arith, capped_small l)
    at (no l) = omega arith

-- a loop that reads the number at p, at i: n is read so far, below the cap
pub record Reading (s : List ℕ) (p n i : ℕ) : Type 0 where
  pub small : n < missing
  pub whole : number_from n (drop i s) ≡ number_in (drop p s)

module _ (s : List ℕ) (p : ℕ) where
  pub reading_begun : Reading s p 0 p
  reading_begun = record { small = omega arith; whole = refl }

  pub reading_more : {n i d : ℕ} → Reading s p n i → d ≡ digit_in (drop i s) → d < 10 → 10 * n + d < missing
      → Reading s p (10 * n + d) (i + 1)
  reading_more {n} {i} h e l m = record { small = m; whole = number_digit n s i e l ∙ h.whole }

  pub reading_full : {n i d : ℕ} → Reading s p n i → d ≡ digit_in (drop i s) → d < 10 → missing ≤ 10 * n + d
      → missing ≡ capped (number_in (drop p s))
  reading_full {n} {i} {d} h f l m =
      let e = number_digit n s i f l ∙ h.whole in
      capped_large (omega (arith, number_least (10 * n + d) (drop (i + 1) s)))

  pub reading_done : {n i : ℕ} → Reading s p n i → digit_in (drop i s) ≡ 10 → n ≡ capped (number_in (drop p s))
  reading_done {n} {i} h e =
      capped_small h.small ∙ ap capped (sym (number_ended n (drop i s) (omega arith)) ∙ h.whole)
