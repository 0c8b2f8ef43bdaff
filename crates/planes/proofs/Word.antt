-- One word: selecting the bits of left sides without a right, and closing the bits over the five low columns. A word
-- is closed as the table's words are, one bit in the place of each word.
use Prim.Native.Nat.{ℕ, zero, suc, ◌+◌, ◌-◌, ◌/◌, ◌^◌, ◌≤◌, ◌<◌, max}
use mathlib.Core.Path.{◌≡◌, refl, sym, ap, ap₂, subst, ◌∙◌}
use mathlib.Core.List.{List, [], ◌∷◌}
use native.Mathlib.Decide.{ℕ_discrete}
use native.Mathlib.Nat.{add-zero}
use native.Mathlib.Numerals.{add-one}
use native.Mathlib.Omega.{arith}
use lib.Bits.{bit_and, bit_or, or_add_and, and_le_l}
use lib.ListN.{length}
use Rattle.columns.specs.Set.{bit}
use Rattle.columns.proofs.Bits.{bit_zero, bit_above, bit_and_lem, bits_same}
use Rattle.table.specs.Words.{word, ColumnJoined, Closed}
use Rattle.table.proofs.Bits.{bit_or_lem, bit_none, bit_power_other, bit_with_same, bit_with_other, with_below}
use Rattle.table.proofs.Closing.{ClosedBelow, close_more}
use Rattle.planes.specs.Bits.{clear_of, SelectedWord, ClosedWord}
use Rattle.planes.proofs.Bits.{bit_low, bit_high, clear_bit}

-- selecting: by the mask of a low column, and else the whole word or nothing
pub selected_low : (i a w c : ℕ) → a < 5 → c ≡ clear_of a → SelectedWord i a w (bit_and w c)
selected_low i a w c h e j l =
    let m : bit c j ≡ 1 - bit j a = ap (λ (z : ℕ). bit z j) e ∙ clear_bit a j h l in
    omega (arith, bit_and_lem w c j, bit_low i j a l h)

pub selected_none : (i a w : ℕ) → 5 ≤ a → bit i (a - 5) ≡ 1 → SelectedWord i a w 0
selected_none i a w h e j l = omega (arith, bit_none j, bit_high i j a l h)

pub selected_all : (i a w : ℕ) → 5 ≤ a → (bit i (a - 5) ≡ 1 → ⊥) → SelectedWord i a w w
selected_all i a w h n j l = let z = none (bit i (a - 5)) (omega arith) n in omega (arith, bit_high i j a l h)
  where
    none : (d : ℕ) → d < 2 → (d ≡ 1 → ⊥) → d ≡ 0
    none d l n = omega arith

-- the 32 bits of a word as a list
bits_from : ℕ → ℕ → ℕ → List ℕ
bits_from w zero i = []
bits_from w (suc m) i = bit w i ∷ bits_from w m (suc i)

pub bits : ℕ → List ℕ
bits w = bits_from w 32 0

bits_from_length : (w m i : ℕ) → length (bits_from w m i) ≡ m
unfolding bits_from
bits_from_length w zero i = refl
bits_from_length w (suc m) i = ap suc (bits_from_length w m (suc i))

bits_from_at : (w m i j : ℕ) → j < m → word (bits_from w m i) j ≡ bit w (i + j)
unfolding bits_from
bits_from_at w zero i j l = absurd (omega arith)
bits_from_at w (suc m) i zero l = ap (bit w) (sym (add-zero i))
bits_from_at w (suc m) i (suc j) l =
    let e : suc i + j ≡ i + suc j = omega arith in
    bits_from_at w m (suc i) j (omega arith) ∙ ap (bit w) e

bits_from_past : (w m i j : ℕ) → m ≤ j → word (bits_from w m i) j ≡ 0
unfolding bits_from
bits_from_past w zero i j l = refl
bits_from_past w (suc m) i zero l = absurd (omega arith)
bits_from_past w (suc m) i (suc j) l = bits_from_past w m (suc i) j (omega arith)

bits_at : (w j : ℕ) → j < 32 → word (bits w) j ≡ bit w j
unfolding bits
bits_at w j l = let e : 0 + j ≡ j = omega arith in bits_from_at w 32 0 j l ∙ ap (bit w) e

bits_bit : (w j : ℕ) → j < 32 → bit (word (bits w) j) 0 ≡ bit w j
bits_bit w j l = ap (λ (z : ℕ). bit z 0) (bits_at w j l) ∙ bit_zero (bit w j) ∙ omega arith

-- a position with column k: the same position, or the one 2 ^ k above
with_member : (n y k : ℕ) → y < 2 ^ n → k < n → bit y k ≡ 1 → bit_or y (2 ^ k) ≡ y
with_member n y k l h e = bits_same n (bit_or y (2 ^ k)) y (with_below n y k l h) l (λ j m. at j (ℕ_discrete j k))
  where
    at : (j : ℕ) → Dec (j ≡ k) → bit (bit_or y (2 ^ k)) j ≡ bit y j
    at j (yes i) = ap (bit (bit_or y (2 ^ k))) i ∙ bit_with_same y k ∙ sym e ∙ ap (bit y) (sym i)
    at j (no d) = bit_with_other y j k d

with_column : (n y k : ℕ) → y < 2 ^ n → bit y k ≡ 0 → bit_or y (2 ^ k) ≡ 2 ^ k + y
with_column n y k l e =
    let both : bit_and y (2 ^ k) ≡ 0 =
    bits_same n (bit_and y (2 ^ k)) 0 (omega (arith, and_le_l y (2 ^ k))) (omega arith)
    (λ j m. at j (ℕ_discrete j k) ∙ sym (bit_none j)) in
    omega (arith, or_add_and y (2 ^ k))
  where
    at : (j : ℕ) → Dec (j ≡ k) → bit (bit_and y (2 ^ k)) j ≡ 0
    at j (yes i) = omega (arith, bit_and_lem y (2 ^ k) j, ap (bit y) i)
    at j (no d) = omega (arith, bit_and_lem y (2 ^ k) j, bit_power_other j k d)

or_digits : (d e : ℕ) → d < 2 → e < 2 → max d e ≡ bit_or d e
or_digits zero zero hd he = refl
or_digits zero (suc zero) hd he = refl
or_digits (suc zero) zero hd he = refl
or_digits (suc zero) (suc zero) hd he = refl
or_digits zero (suc (suc e)) hd he = absurd (omega arith)
or_digits (suc zero) (suc (suc e)) hd he = absurd (omega arith)
or_digits (suc (suc d)) e hd he = absurd (omega arith)

-- one low column joined
module _ (w k : ℕ) (h : k < 5) where
  new : ℕ
  new = bit_or w (bit_and (w / 2 ^ 2 ^ k) (clear_of k))

  joined_bit : (y : ℕ) → y < 32 → bit new y ≡ max (bit w y) (bit w (bit_or y (2 ^ k)))
  unfolding new
  joined_bit y l = at (ℕ_discrete (bit y k) 1)
    where
      at : Dec (bit y k ≡ 1)
          → bit (bit_or w (bit_and (w / 2 ^ 2 ^ k) (clear_of k))) y ≡ max (bit w y) (bit w (bit_or y (2 ^ k)))
      at (yes e) =
          let s = ap (bit w) (with_member 5 y k l h e) in
          omega (
            arith,
            bit_or_lem w (bit_and (w / 2 ^ 2 ^ k) (clear_of k)) y,
            bit_and_lem (w / 2 ^ 2 ^ k) (clear_of k) y,
            clear_bit k y h l,
          )
      at (no d) =
          let z : bit y k ≡ 0 = none (bit y k) (omega arith) d in
          let s = ap (bit w) (with_column 5 y k l z) ∙ bit_above w (2 ^ k) y in
          omega (
            arith,
            bit_or_lem w (bit_and (w / 2 ^ 2 ^ k) (clear_of k)) y,
            bit_and_lem (w / 2 ^ 2 ^ k) (clear_of k) y,
            clear_bit k y h l,
          )
        where
          none : (d : ℕ) → d < 2 → (d ≡ 1 → ⊥) → d ≡ 0
          none d l n = omega arith

  pub joined_word : ColumnJoined 5 k (bits w) (bits (bit_or w (bit_and (w / 2 ^ 2 ^ k) (clear_of k))))
  unfolding new bits
  joined_word =
      record {
        same_length = bits_from_length new 32 0 ∙ sym (bits_from_length w 32 0);
        joined = λ y l.
            bits_at new y l ∙ joined_bit y l ∙ or_digits (bit w y) (bit w (bit_or y (2 ^ k))) (omega arith) (omega arith)
            ∙ ap₂ bit_or (sym (bits_at w y l)) (sym (bits_at w (bit_or y (2 ^ k)) (with_below 5 y k l h)));
        past = λ y l. bits_from_past new 32 0 y l ∙ sym (bits_from_past w 32 0 y l);
      }

-- all five
pub closed_word : (w r : ℕ) → Closed 5 (bits w) (bits r) → ClosedWord w r
closed_word w r c =
    record {
      sound = λ x l e.
          let f = c.sound x 0 l (bits_bit r x l ∙ e) in
          (f.0, f.1, f.2, sym (bits_bit w f.0 f.1) ∙ f.3);
      complete = λ x s l m up e. sym (bits_bit r x l) ∙ c.complete x s 0 l m up (bits_bit w s m ∙ e);
    }

-- the loop over the five low columns: one more is joined
pub closing_more : (before w k p c : ℕ) → k < 5 → p ≡ 2 ^ k → c ≡ clear_of k → ClosedBelow 5 k (bits before) (bits w)
    → ClosedBelow 5 (k + 1) (bits before) (bits (bit_or w (bit_and (w / 2 ^ p) c)))
closing_more before w k p c h ep ec b =
    subst (λ (z : ℕ). ClosedBelow 5 (k + 1) (bits before) (bits z))
    (ap₂ (λ (q m : ℕ). bit_or w (bit_and (w / 2 ^ q) m)) (sym ep) (sym ec))
    (rw (add-one k) (close_more 5 k (bits before) (bits w) (bits (bit_or w (bit_and (w / 2 ^ 2 ^ k) (clear_of k)))) h b
    (joined_word w k h)))
