-- Lines, row by row, and what their numbers are member by member.
use Prim.Native.Nat.{ℕ, zero, suc, ◌+◌, ◌-◌, ◌*◌, ◌/◌, ◌^◌, ◌≤◌, ◌<◌}
use mathlib.Core.Path.{◌≡◌, refl, sym, ap, ap₂, subst, ◌∙◌}
use mathlib.Core.Bool.{Bool, true, false, ◌&&◌}
use mathlib.Core.List.{List, [], ◌∷◌}
use native.Mathlib.Decide.{ℕ_discrete, dec_lt}
use native.Mathlib.Nat.{add-zero, zero-add, one-mul, zero-mul, add_comm, mod-lt}
use native.Mathlib.Omega.{arith}
use borrow.Author.Tests.{lt-ltb, le-ltb, eq-eqb, ne_eqb}
use lib.Bits.{bit_or, or_zero_r, or_shifted_r}
use lib.Dec.{eqb, ltb}
use lib.ListN.{length, set, length-set}
use lib.Seq.{get_or-set_same, get_or-set_other}
use Rattle.std.specs.Prelude.{fold, get_or}
use Rattle.columns.specs.Bound.{column_bound}
use Rattle.columns.specs.Set.{bit, set_below}
use Rattle.columns.specs.Test.{pick}
use Rattle.columns.proofs.Bits.{bit_past, bit_one, bit_full, bits_same}
use Rattle.columns.proofs.SetBelow.{set_below_lt, set_below_same, set_below_split, set_below_bit}
use Rattle.model.specs.Bounds.{row_bound}
use Rattle.table.specs.Words.{word}
use Rattle.table.specs.Broken.{agree_set_of}
use Rattle.table.proofs.Bits.{bit_with_same, bit_with_other, with_below}
use Rattle.filled.proofs.Below.{below_more}
use Rattle.leaders.specs.Keys.{key_at, key_view}
use Rattle.classes.specs.Classes.{number_at, Numbered}
use Rattle.lines.specs.declared.part.Comparand.{Comparand}
use Rattle.lines.specs.Lines.{line_members, LineOf, same_number, part_at, numbered_at, joined_at, with_member, met}
use Rattle.lines.specs.Lines.{met_at}
use Rattle.lines.specs.Compares.{Compares, ComparesEach, added}

-- a line is written row by row
pub line_more : {f : ℕ → ℕ} {x q : ℕ} {line : List ℕ} (s : ℕ) → q < row_bound → s ≡ f q → LineOf f x q line
    → LineOf f x (q + 1) (set line q s)
line_more {f} {x} {q} {line} s l e h = record {
  long = simp length-set h.long;
  at = λ j k m.
      below_more {P = λ j. x < j → word (set line q s) j ≡ f j}
      (λ j m k. get_or-set_other line q j s 0 (λ u. omega arith) ∙ h.at j k m)
      (λ k. get_or-set_same line q s 0 (omega (arith, h.long)) ∙ e) j m k;
}

-- the same numbers by another function
pub line_as : {f : ℕ → ℕ} {x end : ℕ} {line : List ℕ} (g : ℕ → ℕ) → ((q : ℕ) → x < q → q < end → f q ≡ g q)
    → LineOf f x end line → LineOf g x end line
line_as g e h = record { long = h.long; at = λ q k l. h.at q k l ∙ e q k l }

-- what is ahead stays as it was
pub record Ahead (q end : ℕ) (before line : List ℕ) : Type 0 where
  pub as_was : (j : ℕ) → q ≤ j → j < end → word line j ≡ word before j

-- a set with the next number joined to it, or not
pub or_next : (f : ℕ → Bool) (k s r : ℕ) → s ≡ set_below k f → r ≡ pick (f k) (2 ^ k) 0
    → bit_or s r ≡ set_below (suc k) f
unfolding set_below
or_next f k s r e g = ap₂ bit_or e g ∙ at (f k)
  where
    at : (t : Bool) → bit_or (set_below k f) (pick t (2 ^ k) 0) ≡ set_below k f + pick t (2 ^ k) 0
    at true =
        ap (bit_or (set_below k f)) (sym (one-mul (2 ^ k))) ∙ or_shifted_r 1 k (set_below k f) (set_below_lt k f)
        ∙ add_comm (1 * 2 ^ k) (set_below k f) ∙ ap (λ (w : ℕ). set_below k f + w) (one-mul (2 ^ k))
    at false = or_zero_r (set_below k f) ∙ sym (add-zero (set_below k f))

-- what it adds is the bit of j, if the member is numbered and the numbers are the same
both : (b : ℕ) → b < 2 → (e : Bool) (w : ℕ) → pick e (b * w) 0 ≡ pick (eqb b 1 && e) w 0
both zero l true w = zero-mul w
both zero l false w = refl
both (suc zero) l true w = one-mul w
both (suc zero) l false w = refl
both (suc (suc b)) l e w = absurd (omega arith)

adds_member : {bytes : List ℕ} {few x v j : ℕ} {c : Comparand} → Compares bytes few x v j c → (q : ℕ)
    → added bytes q c ≡ pick (same_number bytes few x q (v + j)) (2 ^ j) 0
adds_member {bytes} {few} {x} {v} {j} {c} by q =
    ap₂ (λ (m w : ℕ). pick (eqb m (word bytes (c.at + q))) w 0) by.own by.bit
    ∙ ap (λ (o : ℕ). pick (eqb (number_at bytes (v + j) x) (word bytes (o + q))) (bit few (v + j) * 2 ^ j) 0) by.place
    ∙ both (bit few (v + j)) (mod-lt (few / 2 ^ (v + j)) two_pos)
    (eqb (number_at bytes (v + j) x) (number_at bytes (v + j) q)) (2 ^ j)
  where
    two_pos : 0 < 2
    two_pos = omega arith

-- and what the members add, one after the other, is the part
added_from : (bytes : List ℕ) (few x v q : ℕ) (members : List Comparand) (i s : ℕ)
    → ((j : ℕ) (d : Comparand) → j < length members → Compares bytes few x v (i + j) (get_or members j d))
    → s ≡ set_below i (λ j. same_number bytes few x q (v + j))
    → fold (λ bits c. bit_or bits (added bytes q c)) s members
    ≡ set_below (i + length members) (λ j. same_number bytes few x q (v + j))
added_from bytes few x v q [] i s by e = rw (add-zero i) e
added_from bytes few x v q (c ∷ members) i s by e =
    let f : ℕ → Bool = λ j. same_number bytes few x q (v + j) in
    let first : Compares bytes few x v i c = rw (add-zero i) at (by 0 c (omega arith)) in
    let rest = added_from bytes few x v q members (suc i) (bit_or s (added bytes q c))
    (λ j d l.
    let e : i + suc j ≡ suc i + j = omega arith in
    subst (λ (k : ℕ). Compares bytes few x v k (get_or members j d)) e (by (suc j) d (omega arith)))
    (or_next f i s (added bytes q c) e (adds_member first q)) in
    let e : suc i + length members ≡ i + suc (length members) = omega arith in
    rest ∙ ap (λ (n : ℕ). set_below n f) e

pub part_added : {bytes : List ℕ} {few x v : ℕ} {members : List Comparand} → ComparesEach bytes few x v members
    → (q : ℕ) → fold (λ bits c. bit_or bits (added bytes q c)) 0 members ≡ part_at bytes few x v q
unfolding set_below
part_added {bytes} {few} {x} {v} {members} by q =
    added_from bytes few x v q members 0 0
    (λ j d l. rw (zero-add j) (by.each j d (omega (arith, by.long)))) refl
    ∙ ap (λ (n : ℕ). set_below n (λ j. same_number bytes few x q (v + j))) (zero-add (length members) ∙ by.long)

-- no number passes
none_pass : (n : ℕ) (f : ℕ → Bool) → ((k : ℕ) → k < n → f k ≡ false) → set_below n f ≡ 0
unfolding set_below
none_pass zero f e = refl
none_pass (suc n) f e =
    ap₂ (λ (s : ℕ) (t : Bool). s + pick t (2 ^ n) 0) (none_pass n f (λ k l. e k (omega arith))) (e n (omega arith))

-- the low part alone, or both parts, are the line of all numbered members
not_numbered : (few k : ℕ) → bit few k ≡ 0 → eqb (bit few k) 1 ≡ false
not_numbered few k z = ne_eqb (bit few k) 1 (λ u. omega arith)

pub low_is : (bytes : List ℕ) (few x q : ℕ) → few < 256 → part_at bytes few x 0 q ≡ numbered_at bytes few x q
low_is bytes few x q l =
    let f = same_number bytes few x q in
    let past : set_below 8 (λ j. f (8 + j)) ≡ 0 =
    none_pass 8 (λ j. f (8 + j))
    (λ j m. ap (λ (t : Bool). t && eqb (number_at bytes (8 + j) x) (number_at bytes (8 + j) q))
    (not_numbered few (8 + j) (bit_past few 8 (8 + j) l (omega arith)))) in
    let split = set_below_split 8 8 f in
    let first : set_below 8 (λ j. f (0 + j)) ≡ set_below 8 f =
    set_below_same 8 (λ j. f (0 + j)) f (λ j m. ap f (zero-add j)) in
    omega arith

pub parts_are : (bytes low high : List ℕ) (few x q : ℕ) → word low q ≡ part_at bytes few x 0 q
    → word high q ≡ part_at bytes few x 8 q → joined_at 256 low high q ≡ numbered_at bytes few x q
parts_are bytes low high few x q e g =
    let f = same_number bytes few x q in
    let split = set_below_split 8 8 f in
    let first : set_below 8 (λ j. f (0 + j)) ≡ set_below 8 f =
    set_below_same 8 (λ j. f (0 + j)) f (λ j m. ap f (zero-add j)) in
    omega arith

-- one bit more, anywhere
pub or_one : (n k : ℕ) (f g : ℕ → Bool) → k < n → f k ≡ false → ((i : ℕ) → (i ≡ k → ⊥) → g i ≡ f i)
    → bit_or (set_below n f) (pick (g k) (2 ^ k) 0) ≡ set_below n g
or_one n k f g l z e = at (g k) refl
  where
    others : (i : ℕ) → g k ≡ false → Dec (i ≡ k) → f i ≡ g i
    others i u (yes w) = ap f w ∙ z ∙ sym u ∙ ap g (sym w)
    others i u (no d) = sym (e i d)

    bits : (i : ℕ) → i < n → g k ≡ true → Dec (i ≡ k) → bit (bit_or (set_below n f) (2 ^ k)) i ≡ bit (set_below n g) i
    bits i m u (yes w) =
        subst (λ (j : ℕ). bit (bit_or (set_below n f) (2 ^ k)) j ≡ bit (set_below n g) j) (sym w)
        (bit_with_same (set_below n f) k ∙ sym (set_below_bit n g k l ∙ ap (λ (t : Bool). pick {A = ℕ} t 1 0) u))
    bits i m u (no d) =
        bit_with_other (set_below n f) i k d ∙ set_below_bit n f i m
        ∙ ap (λ (t : Bool). pick {A = ℕ} t 1 0) (sym (e i d))
        ∙ sym (set_below_bit n g i m)

    at : (t : Bool) → g k ≡ t → bit_or (set_below n f) (pick t (2 ^ k) 0) ≡ set_below n g
    at true u =
        bits_same n (bit_or (set_below n f) (2 ^ k)) (set_below n g)
        (with_below n (set_below n f) k (set_below_lt n f) l)
        (set_below_lt n g)
        (λ i m. bits i m u (ℕ_discrete i k))
    at false u = or_zero_r (set_below n f) ∙ set_below_same n f g (λ i m. others i u (ℕ_discrete i k))

-- one member more is looked at by keys, and joined if it is not numbered
ltb_next : (k m : ℕ) → (k ≡ m → ⊥) → ltb k (m + 1) ≡ ltb k m
ltb_next k m d = at (dec_lt k m)
  where
    at : Dec (k < m) → ltb k (m + 1) ≡ ltb k m
    at (yes l) = lt-ltb k (m + 1) (omega arith) ∙ sym (lt-ltb k m l)
    at (no g) = le-ltb k (m + 1) (omega arith) ∙ sym (le-ltb k m (omega arith))

module _ (keys bytes : List ℕ) (few x q : ℕ) where
  by_number : (m k : ℕ) → bit few k ≡ 1 → met keys bytes few m x q k ≡ eqb (number_at bytes k x) (number_at bytes k q)
  by_number m k e =
      ap (λ (t : Bool). pick t (eqb (number_at bytes k x) (number_at bytes k q))
      (ltb k m && eqb (key_at keys k x) (key_at keys k q))) (eq-eqb (bit few k) 1 e)

  by_key : (m k : ℕ) → bit few k ≡ 0 → met keys bytes few m x q k ≡ (ltb k m && eqb (key_at keys k x) (key_at keys k q))
  by_key m k e =
      ap (λ (t : Bool). pick t (eqb (number_at bytes k x) (number_at bytes k q))
      (ltb k m && eqb (key_at keys k x) (key_at keys k q))) (not_numbered few k e)

  met_other : (m k : ℕ) → (k ≡ m → ⊥) → met keys bytes few (m + 1) x q k ≡ met keys bytes few m x q k
  met_other m k d =
      ap (λ (t : Bool). pick (eqb (bit few k) 1) (eqb (number_at bytes k x) (number_at bytes k q))
      (t && eqb (key_at keys k x) (key_at keys k q))) (ltb_next k m d)

  pub met_joined : (m : ℕ) → m < line_members → bit few m ≡ 0
      → bit_or (met_at keys bytes few m x q) (pick (eqb (key_at keys m x) (key_at keys m q)) (2 ^ m) 0)
      ≡ met_at keys bytes few (m + 1) x q
  met_joined m l e =
      let here : met keys bytes few (m + 1) x q m ≡ eqb (key_at keys m x) (key_at keys m q) =
      by_key (m + 1) m e ∙ ap (λ (t : Bool). t && eqb (key_at keys m x) (key_at keys m q))
      (lt-ltb m (m + 1) (omega arith)) in
      let before : met keys bytes few m x q m ≡ false =
      by_key m m e ∙ ap (λ (t : Bool). t && eqb (key_at keys m x) (key_at keys m q)) (le-ltb m m (omega arith)) in
      ap (λ (t : Bool). bit_or (met_at keys bytes few m x q) (pick t (2 ^ m) 0)) (sym here)
      ∙ or_one line_members m (met keys bytes few m x q) (met keys bytes few (m + 1) x q) l before (met_other m)

  -- at first the numbered members alone
  pub met_none : numbered_at bytes few x q ≡ met_at keys bytes few 0 x q
  met_none = set_below_same line_members (same_number bytes few x q) (met keys bytes few 0 x q)
      (λ k l. at (eqb (bit few k) 1) (eqb (number_at bytes k x) (number_at bytes k q))
      (eqb (key_at keys k x) (key_at keys k q)) (ltb k 0) (le-ltb k 0 (omega arith)))
    where
      at : (t e g z : Bool) → z ≡ false → (t && e) ≡ pick t e (z && g)
      at true e g z u = refl
      at false e g z u = sym (ap (λ (z : Bool). z && g) u)

  -- at last all members on which the rows agree
  pub met_all : (n end m : ℕ) → n ≤ column_bound → m ≤ n → ((k : ℕ) → k < n → bit few k ≡ 0 → k < m) → x < end → q < end
      → Numbered keys n end few bytes → met_at keys bytes few m x q ≡ agree_set_of (key_view keys n end) x q
  met_all n end m few-members h rest hx hq numbered =
      let f = met keys bytes few m x q in
      let whole : line_members ≡ n + (line_members - n) = omega arith in
      let past : set_below (line_members - n) (λ j. f (n + j)) ≡ 0 =
      none_pass (line_members - n) (λ j. f (n + j)) (λ j l. none (n + j) (omega arith)) in
      ap (λ (i : ℕ). set_below i f) whole ∙ set_below_split n (line_members - n) f
      ∙ ap (λ (s : ℕ). set_below n f + 2 ^ n * s) past ∙ gone (set_below n f) (2 ^ n)
      ∙ set_below_same n f (λ k. eqb (key_at keys k x) (key_at keys k q)) (λ k l. at k l (ℕ_discrete (bit few k) 0))
    where
      gone : (s p : ℕ) → s + p * 0 ≡ s
      gone s p = omega arith

      none : (k : ℕ) → n ≤ k → met keys bytes few m x q k ≡ false
      none k l =
          by_key m k (bit_past few n k numbered.members l)
          ∙ ap (λ (t : Bool). t && eqb (key_at keys k x) (key_at keys k q)) (le-ltb k m (omega arith))

      at : (k : ℕ) → k < n → Dec (bit few k ≡ 0) → met keys bytes few m x q k ≡ eqb (key_at keys k x) (key_at keys k q)
      at k l (yes z) =
          by_key m k z ∙ ap (λ (t : Bool). t && eqb (key_at keys k x) (key_at keys k q)) (lt-ltb k m (rest k l z))
      at k l (no d) = let b = bit_one few k d in by_number m k b ∙ (numbered.same k b).classes x q hx hq

-- where all n members are numbered none is left
pub none_left : (few n p : ℕ) → p ≡ 2 ^ n → few ≡ p - 1 → (k : ℕ) → k < n → bit few k ≡ 0 → k < 0
none_left few n p is e k l z =
    let full : bit few k ≡ 1 = ap (λ (y : ℕ). bit y k) (e ∙ ap (λ (p : ℕ). p - 1) is) ∙ bit_full n k l in
    absurd (omega arith)

-- the same of whole lines
pub line_low : (bytes : List ℕ) (few x : ℕ) {end : ℕ} (low high : List ℕ) {line : List ℕ} → few < 256
    → LineOf (part_at bytes few x 0) x end low
    → LineOf (joined_at 0 low high) x end line → LineOf (numbered_at bytes few x) x end line
line_low bytes few x low high l part h =
    line_as (numbered_at bytes few x)
    (λ q k m. alone (word low q) (word high q) ∙ part.at q k m ∙ low_is bytes few x q l) h
  where
    alone : (a b : ℕ) → a + 0 * b ≡ a
    alone a b = omega arith

pub line_parts : (bytes : List ℕ) (few x : ℕ) {end : ℕ} (low high : List ℕ) {line : List ℕ}
    → LineOf (part_at bytes few x 0) x end low → LineOf (part_at bytes few x 8) x end high
    → LineOf (joined_at 256 low high) x end line → LineOf (numbered_at bytes few x) x end line
line_parts bytes few x low high part other h =
    line_as (numbered_at bytes few x) (λ q k m. parts_are bytes low high few x q (part.at q k m) (other.at q k m)) h

pub line_none : (keys bytes : List ℕ) (few x : ℕ) {end : ℕ} {line : List ℕ}
    → LineOf (numbered_at bytes few x) x end line
    → LineOf (met_at keys bytes few 0 x) x end line
line_none keys bytes few x h = line_as (met_at keys bytes few 0 x) (λ q k m. met_none keys bytes few x q) h

pub line_joined : (keys bytes : List ℕ) (few k x : ℕ) {end : ℕ} (before : List ℕ) {after : List ℕ} → k < column_bound
    → bit few k ≡ 0 → LineOf (with_member keys k x before) x end after → LineOf (met_at keys bytes few k x) x end before
    → LineOf (met_at keys bytes few (k + 1) x) x end after
line_joined keys bytes few k x before small e h was =
    line_as (met_at keys bytes few (k + 1) x)
    (λ q l m.
    ap (λ (s : ℕ). bit_or s (pick (eqb (key_at keys k x) (key_at keys k q)) (2 ^ k) 0)) (was.at q l m)
    ∙ met_joined keys bytes few x q k (omega arith) e)
    h

pub line_all : (keys bytes : List ℕ) (few x n end m : ℕ) {line : List ℕ} → n ≤ column_bound → m ≤ n
    → ((k : ℕ) → k < n → bit few k ≡ 0 → k < m) → Numbered keys n end few bytes
    → LineOf (met_at keys bytes few m x) x end line → LineOf (agree_set_of (key_view keys n end) x) x end line
line_all keys bytes few x n end m small l rest numbered h =
    line_as (agree_set_of (key_view keys n end) x)
    (λ q k j. met_all keys bytes few x q n end m small l rest (omega arith) j numbered) h
