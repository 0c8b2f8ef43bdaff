-- Loops over the sets of a target's rows, for any view: a left side found inside one of them, a bit noted at each, and
-- each marked on a plane.
use Prim.Native.Nat.{ℕ, ◌+◌, ◌^◌, ◌≤◌, ◌<◌}
use mathlib.Core.Path.{◌≡◌, sym, ap, ap₂, subst, ◌∙◌}
use mathlib.Core.Logic.{◌↔◌, ◌⊎◌, inl, inr}
use mathlib.Core.Bool.{true, false}
use mathlib.Core.List.{List}
use native.Mathlib.Decide.{ℕ_discrete}
use native.Mathlib.Omega.{arith}
use borrow.Author.Tests.{eqb-true, eq-eqb}
use lib.Bits.{bit_and, bit_or}
use lib.ListN.{length, set}
use lib.Pow.{pow_mono}
use lib.Seq.{get_or-set_same, get_or-set_other}
use Rattle.columns.specs.Set.{bit, within_of}
use Rattle.columns.proofs.Bits.{within_members, members_within}
use Rattle.model.specs.View.{View, Backed, backed}
use Rattle.model.proofs.Backed.{true_backed, false_backed}
use Rattle.table.specs.Words.{word, Above}
use Rattle.table.specs.Backed.{PresentSets, LaidSet, SetsNoted}
use Rattle.table.proofs.Backed.{present_set_below, above_present}
use Rattle.table.proofs.Bits.{bit_with_same, bit_with_other}
use Rattle.planes.specs.Bits.{plane_bit}
use Rattle.planes.specs.Marks.{Marked}

-- all of x is found in s exactly if s is x or larger
found_above : (x s : ℕ) → bit_and x s ≡ x → Above x s
unfolding within_of
found_above x s e = within_members x s (eq-eqb (bit_and x s) x e)

above_found : (x s : ℕ) → Above x s → bit_and x s ≡ x
unfolding within_of
above_found x s up = eqb-true (bit_and x s) x (members_within x s up)

-- x is found in the set of a row: it is backed; in none: it is not
module _ (sets : List ℕ) (end x : ℕ) (v : View) (n : ℕ) (laid : PresentSets v n end sets) (l : x < 2 ^ n) where
  small : x < 2 ^ v.members
  small = omega (arith, ap (λ (k : ℕ). 2 ^ k) laid.members)

  pub found_backed : (q : ℕ) → q < end → bit_and x (word sets q) ≡ x → true ≡ backed v x
  found_backed q h e =
      sym (true_backed v x (record {
        witness = q;
        exists = omega (arith, laid.rows);
        present = (above_present v x q small).0 (subst (Above x) (laid.each q h) (found_above x (word sets q) e));
      }))

  pub unfound_backed : ((q : ℕ) → q < end → bit_and x (word sets q) ≡ x → ⊥) → false ≡ backed v x
  unfound_backed none = sym (false_backed v x (λ b. at b (omega (arith, b.exists, laid.rows))))
    where
      at : (b : Backed v x) → b.witness < end → ⊥
      at b h =
          none b.witness h
          (above_found x (word sets b.witness)
          (subst (Above x) (sym (laid.each b.witness h)) ((above_present v x b.witness small).1 b.present)))

-- the sets laid are sets of n columns
pub laid_small : (v : View) (n m end : ℕ) (sets : List ℕ) → PresentSets v n end sets → n ≤ m → (q : ℕ) → q < end
    → word sets q < 2 ^ m
laid_small v n m end sets laid h q l =
    let few : v.members ≤ m = omega (arith, laid.members) in
    omega (arith, laid.each q l, present_set_below v q, pow_mono few)

-- no set is laid, and one more
no_set : (sets : List ℕ) (s : ℕ) → LaidSet sets 0 s → ⊥
no_set sets s f = omega (arith, f.1)

set_more : (sets : List ℕ) (q s : ℕ) → LaidSet sets (q + 1) s ↔ (LaidSet sets q s ⊎ (s ≡ word sets q))
set_more sets q s = (
  λ f. at f (ℕ_discrete f.0 q),
  elim [ inl f ↦ (f.0, omega (arith, f.1), f.2) | inr e ↦ (q, omega arith, sym e) ],
)
  where
    at : (f : LaidSet sets (q + 1) s) → Dec (f.0 ≡ q) → LaidSet sets q s ⊎ (s ≡ word sets q)
    at f (yes e) = inr (sym f.2 ∙ ap (word sets) e)
    at f (no n) = inl (f.0, omega (arith, f.1), f.2)

-- the sets of the first rows, marked
pub marked_sets_more : (sets before mid after : List ℕ) (q : ℕ) → Marked (LaidSet sets q) before mid
    → Marked (λ y. y ≡ word sets q) mid after → Marked (LaidSet sets (q + 1)) before after
marked_sets_more sets before mid after q m one =
    record { marks = λ y. (λ b. into y ((one.marks y).0 b), out y) }
  where
    into : (y : ℕ) → (plane_bit mid y ≡ 1) ⊎ (y ≡ word sets q) → (plane_bit before y ≡ 1) ⊎ LaidSet sets (q + 1) y
    into y (inl b) = elim ((m.marks y).0 b) [ inl p ↦ inl p | inr f ↦ inr ((set_more sets q y).1 (inl f)) ]
    into y (inr e) = inr ((set_more sets q y).1 (inr e))

    out : (y : ℕ) → (plane_bit before y ≡ 1) ⊎ LaidSet sets (q + 1) y → plane_bit after y ≡ 1
    out y (inl p) = (one.marks y).1 (inl ((m.marks y).1 (inl p)))
    out y (inr f) =
        elim ((set_more sets q y).0 f)
        [ inl g ↦ (one.marks y).1 (inl ((m.marks y).1 (inr g))) | inr e ↦ (one.marks y).1 (inr e) ]

-- bit b, noted at the sets of the first rows
pub noted_none : (b : ℕ) (sets words : List ℕ) → SetsNoted b sets 0 words words
noted_none b sets words =
    record { noted = λ s a. (λ e. inl e, elim [ inl e ↦ e | inr f ↦ absurd (no_set sets s f.1) ]) }

module _ (b : ℕ) (sets before mid : List ℕ) (q s p : ℕ) (is : s ≡ word sets q) (power : p ≡ 2 ^ b)
    (h : s < length mid) where
  after : List ℕ
  after = set mid s (bit_or (word mid s) p)

  here : word after s ≡ bit_or (word mid s) (2 ^ b)
  unfolding after
  here = get_or-set_same mid s (bit_or (word mid s) p) 0 h ∙ ap (bit_or (word mid s)) power

  -- the bit of s is set, and all others stay
  set_here : bit (word after s) b ≡ 1
  set_here = ap (λ (w : ℕ). bit w b) here ∙ bit_with_same (word mid s) b

  kept : (y a : ℕ) → ((y ≡ s) × (a ≡ b) → ⊥) → bit (word after y) a ≡ bit (word mid y) a
  unfolding after
  kept y a n = at (ℕ_discrete y s) (ℕ_discrete a b)
    where
      at : Dec (y ≡ s) → Dec (a ≡ b) → bit (word (set mid s (bit_or (word mid s) p)) y) a ≡ bit (word mid y) a
      at (no d) u = ap (λ (w : ℕ). bit w a) (get_or-set_other mid s y (bit_or (word mid s) p) 0 d)
      at (yes e) (yes f) = absurd (n (e, f))
      at (yes e) (no d) =
          ap (λ (y : ℕ). bit (word (set mid s (bit_or (word mid s) p)) y) a) e
          ∙ ap (λ (w : ℕ). bit w a) here ∙ bit_with_other (word mid s) a b d
          ∙ ap (λ (y : ℕ). bit (word mid y) a) (sym e)

  pub noted_more : SetsNoted b sets q before mid
      → SetsNoted b sets (q + 1) before (set mid s (bit_or (word mid s) p))
  unfolding after
  noted_more m =
      record { noted = λ y a. (λ e. into y a e (ℕ_discrete y s) (ℕ_discrete a b), out y a) }
    where
      earlier : (y a : ℕ) → bit (word mid y) a ≡ 1 → (bit (word before y) a ≡ 1) ⊎ ((a ≡ b) × LaidSet sets (q + 1) y)
      earlier y a e =
          elim ((m.noted y a).0 e) [ inl f ↦ inl f | inr f ↦ inr (f.0, (set_more sets q y).1 (inl f.1)) ]

      into : (y a : ℕ) → bit (word after y) a ≡ 1 → Dec (y ≡ s) → Dec (a ≡ b)
          → (bit (word before y) a ≡ 1) ⊎ ((a ≡ b) × LaidSet sets (q + 1) y)
      into y a e (yes f) (yes g) = inr (g, (set_more sets q y).1 (inr (f ∙ is)))
      into y a e (yes f) (no d) = earlier y a (sym (kept y a (λ u. d u.1)) ∙ e)
      into y a e (no d) g = earlier y a (sym (kept y a (λ u. d u.0)) ∙ e)

      stays : (y a : ℕ) → bit (word mid y) a ≡ 1 → Dec (y ≡ s) → Dec (a ≡ b) → bit (word after y) a ≡ 1
      stays y a e (yes f) (yes g) = ap₂ (λ (y a : ℕ). bit (word after y) a) f g ∙ set_here
      stays y a e (yes f) (no d) = kept y a (λ u. d u.1) ∙ e
      stays y a e (no d) g = kept y a (λ u. d u.0) ∙ e

      noted_now : (y a : ℕ) → a ≡ b → LaidSet sets q y ⊎ (y ≡ word sets q) → bit (word after y) a ≡ 1
      noted_now y a g (inl f) = stays y a ((m.noted y a).1 (inr (g, f))) (ℕ_discrete y s) (ℕ_discrete a b)
      noted_now y a g (inr e) = ap₂ (λ (y a : ℕ). bit (word after y) a) (e ∙ sym is) g ∙ set_here

      out : (y a : ℕ) → (bit (word before y) a ≡ 1) ⊎ ((a ≡ b) × LaidSet sets (q + 1) y) → bit (word after y) a ≡ 1
      out y a (inl e) = stays y a ((m.noted y a).1 (inl e)) (ℕ_discrete y s) (ℕ_discrete a b)
      out y a (inr f) = noted_now y a f.0 ((set_more sets q y).0 f.1)
