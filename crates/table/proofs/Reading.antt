-- Reading off marks which rights are minimal for a left side x: the members of x are passed one by one, the lowest
-- first. For one right by its marks, and for all rights at once by the words.
use Prim.Native.Nat.{ℕ, ◌-◌, ◌^◌, ◌≤◌, ◌<◌}
use mathlib.Core.Path.{◌≡◌, sym, ap, ◌∙◌, subst}
use mathlib.Core.Logic.{◌↔◌}
use mathlib.Core.List.{List}
use native.Mathlib.Decide.{ℕ_discrete}
use native.Mathlib.Omega.{arith}
use lib.Bits.{bit_and}
use lib.Pow.{pow_pos}
use Rattle.columns.specs.Set.{bit, without_of}
use Rattle.columns.proofs.Bits.{bit_and_lem, bit_without_same, bit_without_other, without_some, bit_power_le}
use Rattle.table.specs.Words.{word, Above, lacking_of, Narrow, mark_at, ReadOff}
use Rattle.table.proofs.Bits.{bit_lacking, bit_none, has_lowest, rest_without}

-- right a is read off its marks for the members of x that are passed: those not in `left`
pub record NarrowBut (mark : ℕ → ℕ) (x left a : ℕ) : Type 0 where
  pub given : mark x ≡ 0
  pub outside : bit x a ≡ 0
  pub spare : (k : ℕ) → bit x k ≡ 1 → bit left k ≡ 0 → mark (without_of x k) ≡ 1

module _ (mark : ℕ → ℕ) (x a : ℕ) where
  -- none, one more, and all of them
  pub narrow_none : mark x ≡ 0 → bit x a ≡ 0 → NarrowBut mark x x a
  narrow_none g o = record { given = g; outside = o; spare = λ k i n. absurd (omega arith) }

  pub narrow_passed : (left k : ℕ) → mark (without_of x k) ≡ 1 → NarrowBut mark x left a
      → NarrowBut mark x (without_of left k) a
  narrow_passed left k e f =
      record { given = f.given; outside = f.outside; spare = λ j i n. at j i n (ℕ_discrete j k) }
    where
      at : (j : ℕ) → bit x j ≡ 1 → bit (without_of left k) j ≡ 0 → Dec (j ≡ k) → mark (without_of x j) ≡ 1
      at j i n (yes s) = subst (λ (z : ℕ). mark (without_of x z) ≡ 1) (sym s) e
      at j i n (no d) = f.spare j i (sym (bit_without_other left j k d) ∙ n)

  pub narrow_all : (left : ℕ) → left ≡ 0 → NarrowBut mark x left a → Narrow mark x a
  narrow_all left e f =
      record {
        given = f.given;
        outside = f.outside;
        spare = λ k i. f.spare k i (ap (λ (z : ℕ). bit z k) e ∙ bit_none k);
      }

  -- fewer
  narrow_fewer : (left k : ℕ) → NarrowBut mark x (without_of left k) a → NarrowBut mark x left a
  narrow_fewer left k f =
      record { given = f.given; outside = f.outside; spare = λ j i n. f.spare j i (at j n (ℕ_discrete j k)) }
    where
      at : (j : ℕ) → bit left j ≡ 0 → Dec (j ≡ k) → bit (without_of left k) j ≡ 0
      at j n (yes s) = subst (λ (z : ℕ). bit (without_of left k) z ≡ 0) (sym s) (bit_without_same left k)
      at j n (no d) = bit_without_other left j k d ∙ n

  narrow_but : (left : ℕ) → Narrow mark x a → NarrowBut mark x left a
  narrow_but left f = record { given = f.given; outside = f.outside; spare = λ k i n. f.spare k i }

-- the lowest member left to pass, and what is left without it
pub record Next (x left k : ℕ) : Type 0 where
  pub in_it : bit left k ≡ 1
  pub rest : bit_and left (left - 1) ≡ without_of left k
  pub less : x - (left - bit_and left (left - 1)) ≡ without_of x k

pub next_member : (x left : ℕ) → 0 < left → Above left x → (k : ℕ) × Next x left k
next_member x left h up =
    let w = has_lowest left h in
    let k = w.0 in
    let e = w.1.rest in
    let i : bit left k ≡ 1 = w.1.in_it in
    let part : left - bit_and left (left - 1) ≡ 2 ^ k = omega arith in (
      k,
      record {
        in_it = i;
        rest = rest_without left k w.1;
        less = ap (λ (p : ℕ). x - p) part ∙ sym (without_some x k (up k i));
      },
    )

pub above_passed : (x left k : ℕ) → Above left x → Above (without_of left k) x
above_passed x left k up j e = up j (at (ℕ_discrete j k))
  where
    at : Dec (j ≡ k) → bit left j ≡ 1
    at (yes s) = absurd (omega (arith, ap (bit (without_of left k)) s, bit_without_same left k))
    at (no d) = sym (bit_without_other left j k d) ∙ e

-- with `left` still to pass, r is the mask of the rights so read
pub record Reading (ws : List ℕ) (x own left r : ℕ) : Type 0 where
  pub within : Above left x
  pub mask : (a : ℕ) → (bit r a ≡ 1) ↔ ((bit own a ≡ 1) × NarrowBut (mark_at ws a) x left a)

pub reading_begun : (ws : List ℕ) (x own outer r : ℕ) → outer ≡ lacking_of own x → r ≡ lacking_of outer (word ws x)
    → Reading ws x own x r
reading_begun ws x own outer r p q =
    record {
      within = λ k i. i;
      mask = λ a. (
        λ e. (omega (arith, bits a), narrow_none (mark_at ws a) x a (omega (arith, bits a)) (omega (arith, bits a))),
        λ f. let e = f.0 in let o = f.1.outside in let g = f.1.given in omega (arith, bits a),
      );
    }
  where
    bits : (a : ℕ) → bit r a ≡ bit own a - bit x a - bit (word ws x) a
    bits a =
        ap (λ (z : ℕ). bit z a) q ∙ bit_lacking outer (word ws x) a
        ∙ ap (λ (b : ℕ). b - bit (word ws x) a) (ap (λ (z : ℕ). bit z a) p ∙ bit_lacking own x a)

-- one member more is passed
reading_passed : (ws : List ℕ) (x own left r k : ℕ) → Reading ws x own left r → bit left k ≡ 1
    → Reading ws x own (without_of left k) (bit_and r (word ws (without_of x k)))
reading_passed ws x own left r k h i =
    record {
      within = above_passed x left k h.within;
      mask = λ a. (
        λ e.
            let b = bit_and_lem r (word ws (without_of x k)) a in
            let f = (h.mask a).0 (omega arith) in
            (f.0, narrow_passed (mark_at ws a) x a left k (omega arith) f.1),
        λ f.
            let b = bit_and_lem r (word ws (without_of x k)) a in
            let s = f.1.spare k (h.within k i) (bit_without_same left k) in
            let t = (h.mask a).1 (f.0, narrow_fewer (mark_at ws a) x a left k f.1) in
            omega arith,
      );
    }

-- the part of x that its lowest member left to pass is
pub lowest_part : (x left : ℕ) → 0 < left → Above left x → left - bit_and left (left - 1) ≤ x
lowest_part x left h up =
    let w = has_lowest left h in
    let e = w.1.rest in
    omega (arith, bit_power_le x w.0 (up w.0 w.1.in_it))

pub rest_less : (left : ℕ) → 0 < left → bit_and left (left - 1) < left
rest_less left h = let w = has_lowest left h in let e = w.1.rest in omega (arith, pow_pos w.0)

pub reading_more : (ws : List ℕ) (x own left r : ℕ) → 0 < left → Reading ws x own left r
    → Reading ws x own (bit_and left (left - 1)) (bit_and r (word ws (x - (left - bit_and left (left - 1)))))
reading_more ws x own left r h d =
    let w = next_member x left h d.within in
    let k = w.0 in
    subst (λ (z : ℕ). Reading ws x own (bit_and left (left - 1)) (bit_and r (word ws z))) (sym w.1.less)
    (subst (λ (z : ℕ). Reading ws x own z (bit_and r (word ws (without_of x k)))) (sym w.1.rest)
    (reading_passed ws x own left r k d w.1.in_it))

-- every member is passed
pub reading_done : (ws : List ℕ) (x own left r : ℕ) → left ≡ 0 → Reading ws x own left r
    → (a : ℕ) → (bit r a ≡ 1) ↔ ReadOff ws x own a
reading_done ws x own left r e d a = (
  λ b. let f = (d.mask a).0 b in (f.0, narrow_all (mark_at ws a) x a left e f.1),
  λ f. (d.mask a).1 (f.0, narrow_but (mark_at ws a) x a left f.1),
)
