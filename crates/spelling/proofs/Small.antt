-- White space, a byte, a word and a numeral: each reader reads exactly what is spelled.
use Prim.Native.Nat.{ℕ, ◌+◌, ◌≤◌, ◌<◌}
use mathlib.Core.Path.{◌≡◌, refl, sym, ap, subst, ◌∙◌}
use mathlib.Core.Bool.{false}
use mathlib.Core.List.{List, [], ◌∷◌, ◌++◌}
use native.Mathlib.Decide.{ℕ_discrete, dec_lt}
use native.Mathlib.Omega.{arith}
use lib.ListN.{length, drop}
use Rattle.columns.proofs.Test.{if_eq_yes, if_eq_no, if_lt_yes, if_lt_no}
use Rattle.columns.specs.Test.{if_eq}
use Rattle.model.specs.Bytes.{byte_at}
use Rattle.model.specs.Form.{is_digit, number_in, next, skip, digits_end, expect, word_at, numeral_at}
use Rattle.model.specs.Text.{decimal}
use Rattle.model.specs.Xml.{is_white, White}
use Rattle.readers.proofs.Next.{next_read, next_some}
use Rattle.readers.specs.Stands.{Stands}
use Rattle.numerals.proofs.Decimal.{decimal_digits, decimal_some, decimal_leads, number_decimal, decimal_number}
use Rattle.numerals.specs.Digits.{Digits}
use Rattle.spelling.proofs.Runs.{run_le, run_high, run_stops, run_sound, run_complete}
use Rattle.spelling.proofs.Stands.{stands_join, stands_one, stands_byte, byte_behind, stands_inside, stands_cut}
use Rattle.spelling.proofs.Stands.{none_stands, stands_only, stands_grows}

-- white space is skipped, all of it
pub skip_sound : (s : List ℕ) (p : ℕ) → p ≤ length s → (w : List ℕ) × White w × Stands s p w (skip s p)
unfolding skip
skip_sound s p l = run_sound is_white White tt (λ x w t h. (t, h)) s p l

pub skip_stops : (s : List ℕ) (p : ℕ) → is_white (byte_at s (skip s p)) ≡ false
unfolding skip
skip_stops s p = run_stops is_white s p refl

pub skip_complete : {s : List ℕ} {p : ℕ} {w : List ℕ} {q : ℕ} → Stands s p w q → White w
    → is_white (byte_at s q) ≡ false → skip s p ≡ q
unfolding skip
skip_complete h all e = run_complete is_white White (λ x w t. t) h all e

pub skip_le : (s : List ℕ) (p : ℕ) → p ≤ skip s p
unfolding skip
skip_le s p = run_le is_white s p

-- a byte
pub expect_sound : {s : List ℕ} {x p q : ℕ} → expect s x p ≡ q → (q ≡ 0 → ⊥) → Stands s p (x ∷ []) q
unfolding expect
expect_sound {s} {x} {p} {q} e n = at (dec_lt p (length s)) (ℕ_discrete (byte_at s p) x)
  where
    at : Dec (p < length s) → Dec (byte_at s p ≡ x) → Stands s p (x ∷ []) q
    at (no l) d = absurd (n (sym e ∙ if_lt_no (if_eq (byte_at s p) x (p + 1) 0) (omega arith)))
    at (yes l) (no d) = absurd (n (sym e ∙ (if_lt_yes 0 l ∙ if_eq_no (p + 1) d)))
    at (yes l) (yes d) =
        let r : p + 1 ≡ q = sym (if_lt_yes 0 l ∙ if_eq_yes 0 d) ∙ e in
        subst (λ (y : ℕ). Stands s p (y ∷ []) q) d
        (subst (λ (k : ℕ). Stands s p (byte_at s p ∷ []) k) r (stands_one s p l))

pub expect_complete : {s : List ℕ} {x p q : ℕ} → Stands s p (x ∷ []) q → expect s x p ≡ q
unfolding expect
expect_complete h = if_lt_yes 0 (stands_inside h) ∙ (if_eq_yes 0 (stands_byte h) ∙ sym h.end)

-- a byte behind white space
pub mark_complete : {s : List ℕ} {p : ℕ} (w : List ℕ) (x : ℕ) (rest : List ℕ) {q : ℕ} → White w → is_white x ≡ false
    → Stands s p (w ++ (x ∷ rest)) q → (m : ℕ) × (expect s x (skip s p) ≡ m) × (p < m) × Stands s m rest q
mark_complete {s} {p} w x rest {q} all e h =
    let c = stands_cut s p w (x ∷ rest) q h in
    let d = stands_cut s (p + length w) (x ∷ []) rest q c.1 in
    let k = skip_complete c.0 all (ap is_white (stands_byte c.1) ∙ e) in
    (p + length w + 1, ap (expect s x) k ∙ expect_complete d.0, omega arith, d.1)

-- one reader after another, where both read
pub next_is : {r m q : ℕ} (f : ℕ → ℕ) → r ≡ m → (m ≡ 0 → ⊥) → f m ≡ q → next r f ≡ q
next_is f e n g = ap (λ (k : ℕ). next k f) e ∙ (next_some f n ∙ g)

-- a word of one byte or more
pub word_sound : {s : List ℕ} {x : ℕ} {w : List ℕ} {p q : ℕ} → word_at s (x ∷ w) p ≡ q → (q ≡ 0 → ⊥)
    → Stands s p (x ∷ w) q
unfolding word_at
word_sound {s} {x} {w = []} {p} e n =
    let r = next_read (expect s x p) (word_at s []) e n in
    expect_sound r.1 n
word_sound {s} {x} {w = y ∷ w} {p} e n =
    let r = next_read (expect s x p) (word_at s (y ∷ w)) e n in
    stands_join (expect_sound refl r.0) (word_sound {x = y} {w = w} r.1 n)

pub word_complete : {s : List ℕ} {x : ℕ} {w : List ℕ} {p q : ℕ} → Stands s p (x ∷ w) q → word_at s (x ∷ w) p ≡ q
unfolding word_at
word_complete {s} {x} {w = []} {p} {q} h = next_is (word_at s []) (expect_complete h) (omega arith) refl
word_complete {s} {x} {w = y ∷ w} {p} {q} h =
    let c = stands_cut s p (x ∷ []) (y ∷ w) q h in
    next_is (word_at s (y ∷ w)) (expect_complete c.0) (omega arith) (word_complete {x = y} {w = w} c.1)

-- digits
digits_sound : (s : List ℕ) (p : ℕ) → p < digits_end s p → (w : List ℕ) × Digits w × Stands s p w (digits_end s p)
unfolding digits_end
digits_sound s p l =
    let high = run_high is_digit s p in
    run_sound is_digit Digits tt (λ x w t h. (t, h)) s p (omega arith)

digits_le : (s : List ℕ) (p : ℕ) → p ≤ digits_end s p
unfolding digits_end
digits_le s p = run_le is_digit s p

digits_stop : (s : List ℕ) (p : ℕ) → is_digit (byte_at s (digits_end s p)) ≡ false
unfolding digits_end
digits_stop s p = run_stops is_digit s p refl

digits_complete : {s : List ℕ} {p : ℕ} {w : List ℕ} {q : ℕ} → Stands s p w q → Digits w → is_digit (byte_at s q) ≡ false
    → digits_end s p ≡ q
unfolding digits_end
digits_complete h all e = run_complete is_digit Digits (λ x w t. t) h all e

-- a numeral is some digits, and 0 only as the only one
numeral_ends : (s : List ℕ) (p : ℕ) {q : ℕ} → numeral_at s p ≡ q → (q ≡ 0 → ⊥)
    → (digits_end s p ≡ q) × (p ≡ q → ⊥) × (byte_at s p ≡ 48 → q ≡ p + 1)
unfolding numeral_at
numeral_ends s p {q} e n =
    at (ℕ_discrete (digits_end s p) p) (ℕ_discrete (byte_at s p) 48) (ℕ_discrete (digits_end s p) (p + 1))
  where
    at : Dec (digits_end s p ≡ p) → Dec (byte_at s p ≡ 48) → Dec (digits_end s p ≡ p + 1)
        → (digits_end s p ≡ q) × (p ≡ q → ⊥) × (byte_at s p ≡ 48 → q ≡ p + 1)
    at (yes a) b c =
        let z : q ≡ 0 = sym e ∙ if_eq_yes _ a in
        absurd (n z)
    at (no a) (yes b) (yes c) =
        let z : q ≡ p + 1 = sym e ∙ (if_eq_no 0 a ∙ (if_eq_yes _ b ∙ if_eq_yes 0 c)) in
        (c ∙ sym z, λ y. omega arith, λ y. z)
    at (no a) (yes b) (no c) =
        let z : q ≡ 0 = sym e ∙ (if_eq_no 0 a ∙ (if_eq_yes _ b ∙ if_eq_no _ c)) in
        absurd (n z)
    at (no a) (no b) c =
        let z : q ≡ digits_end s p = sym e ∙ (if_eq_no 0 a ∙ if_eq_no _ b) in
        (sym z, λ y. a (sym (y ∙ z)), λ y. absurd (b y))

-- and the other way
ends_numeral : (s : List ℕ) (p : ℕ) {q : ℕ} → digits_end s p ≡ q → (p ≡ q → ⊥) → (byte_at s p ≡ 48 → q ≡ p + 1)
    → numeral_at s p ≡ q
unfolding numeral_at
ends_numeral s p {q} e n lead = if_eq_no 0 (λ z. n (sym z ∙ e)) ∙ at (ℕ_discrete (byte_at s p) 48)
  where
    at : Dec (byte_at s p ≡ 48)
        → if_eq (byte_at s p) 48 (if_eq (digits_end s p) (p + 1) (p + 1) 0) (digits_end s p) ≡ q
    at (yes b) = if_eq_yes (digits_end s p) b ∙ (if_eq_yes 0 (e ∙ lead b) ∙ sym (lead b))
    at (no b) = if_eq_no (if_eq (digits_end s p) (p + 1) (p + 1) 0) b ∙ e

-- where a numeral is read, a number stands there
pub numeral_sound : {s : List ℕ} {p q : ℕ} → numeral_at s p ≡ q → (q ≡ 0 → ⊥)
    → (n : ℕ) × Stands s p (decimal n) q × (is_digit (byte_at s q) ≡ false) × (digits_end s p ≡ q)
numeral_sound {s} {p} {q} e z =
    let k = numeral_ends s p e z in
    let low = digits_le s p in
    let d = digits_sound s p (omega (arith, k.0, k.1)) in
    let n = spelled d.0 d.1 (subst (λ (r : ℕ). Stands s p d.0 r) k.0 d.2) k.1 k.2 in
    (n.0, n.1, subst (λ (r : ℕ). is_digit (byte_at s r) ≡ false) k.0 (digits_stop s p), k.0)
  where
    spelled : (w : List ℕ) → Digits w → Stands s p w q → (p ≡ q → ⊥) → (byte_at s p ≡ 48 → q ≡ p + 1)
        → (n : ℕ) × Stands s p (decimal n) q
    spelled [] all h some lead = absurd (some (sym (none_stands h)))
    spelled (x ∷ l) all h some lead =
        let only : x ≡ 48 → l ≡ [] = λ y. stands_only l h (lead (stands_byte h ∙ y)) in
        (number_in (x ∷ l), subst (λ (w : List ℕ). Stands s p w q) (sym (decimal_number x l all only)) h)

-- a number that stands there, with no digit behind it, is read
pub numeral_complete : {s : List ℕ} {p : ℕ} (n : ℕ) {q : ℕ} → Stands s p (decimal n) q → is_digit (byte_at s q) ≡ false
    → (numeral_at s p ≡ q) × (digits_end s p ≡ q)
numeral_complete {s} {p} n {q} h e =
    let ends = digits_complete h (decimal_digits n) e in
    let d = decimal_some n in
    let g = subst (λ (w : List ℕ). Stands s p w q) d.2 h in
    let l = stands_grows g in (
      ends_numeral s p ends (λ z. omega arith) (λ z. lead d.0 d.1 g (decimal_leads n d.0 d.1 d.2) z),
      ends,
    )
  where
    lead : (x : ℕ) (l : List ℕ) → Stands s p (x ∷ l) q → (x ≡ 48 → l ≡ []) → byte_at s p ≡ 48 → q ≡ p + 1
    lead x l g only z =
        let k = ap length (only (sym (stands_byte g) ∙ z)) in
        omega arith

-- and its value
pub number_stands : {s : List ℕ} {p : ℕ} (n : ℕ) {q : ℕ} → Stands s p (decimal n) q → is_digit (byte_at s q) ≡ false
    → number_in (drop p s) ≡ n
number_stands {s} {p} n {q} h e =
    ap number_in h.text ∙ number_decimal n (drop q s) (ap is_digit (byte_behind s q) ∙ e)
