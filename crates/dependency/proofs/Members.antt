-- The members that a question looks at, and what is told of it by their keys.
use Prim.Native.Nat.{ℕ, ◌^◌, ◌≤◌, ◌<◌}
use mathlib.Core.Path.{◌≡◌, refl, sym, ap, subst, ◌∙◌}
use mathlib.Core.Logic.{inl, inr}
use mathlib.Core.List.{List}
use mathlib.Core.Bool.{Bool, true, false, not}
use native.Mathlib.Decide.{ℕ_discrete}
use native.Mathlib.Omega.{arith}
use borrow.Author.Tests.{eq-eqb, ne_eqb}
use lib.Bits.{bit_or}
use lib.Dec.{eqb}
use lib.Pow.{pow_pos}
use Rattle.columns.specs.Bound.{column_bound}
use Rattle.columns.specs.Set.{bit}
use Rattle.columns.proofs.Bits.{below_own_power, bits_same}
use Rattle.columns.proofs.Test.{if_eq_yes, if_eq_no}
use Rattle.model.specs.Bounds.{row}
use Rattle.model.specs.Catalogue.{rows, visible}
use Rattle.model.specs.View.{View, Within, holds}
use Rattle.model.specs.Pair.{first_pair}
use Rattle.model.specs.Target.{view}
use Rattle.model.proofs.Check.{accepted_visible}
use Rattle.model.specs.Rights.{right_at}
use Rattle.table.proofs.Bits.{bit_none, bit_power_same, bit_power_other, bit_with_same, bit_with_other}
use Rattle.table.proofs.Table.{right_row, right_column, bit_zero_if}
use Rattle.leaders.specs.Keys.{key_view, LaidFor, Keyed}
use Rattle.leaders.proofs.Keys.{KeyedRight, keyed_holds, keyed_pair}
use Rattle.keys.proofs.Catalogue.{laid_catalogue}
use Rattle.partition.specs.Partition.{Given}
use Rattle.dependency.specs.Posed.{Posed, members_asked, right_bit}

-- the members
module _ (x a : ℕ) where
  pub members_row : a ≡ row → x ≡ members_asked x a
  unfolding members_asked
  members_row e = sym (if_eq_yes (bit_or x (2 ^ a)) e)

  pub members_column : (a ≡ row → ⊥) → bit_or x (2 ^ a) ≡ members_asked x a
  unfolding members_asked
  members_column n = sym (if_eq_no x n)

  members_left : (k : ℕ) → bit x k ≡ 1 → bit (members_asked x a) k ≡ 1
  members_left k i = at (ℕ_discrete a row) (ℕ_discrete k a)
    where
      at : Dec (a ≡ row) → Dec (k ≡ a) → bit (members_asked x a) k ≡ 1
      at (yes e) d = ap (λ (m : ℕ). bit m k) (sym (members_row e)) ∙ i
      at (no n) (yes e) =
          ap (λ (m : ℕ). bit m k) (sym (members_column n)) ∙ ap (bit (bit_or x (2 ^ a))) e ∙ bit_with_same x a
      at (no n) (no d) = ap (λ (m : ℕ). bit m k) (sym (members_column n)) ∙ bit_with_other x k a d ∙ i

  pub left_within : (v : View) → Within v x (members_asked x a)
  left_within v k l i = members_left k i

  pub right_keyed : (n : ℕ) → ((a ≡ row → ⊥) → a < n) → KeyedRight n (members_asked x a) a
  right_keyed n h = at (ℕ_discrete a row)
    where
      at : Dec (a ≡ row) → KeyedRight n (members_asked x a) a
      at (yes e) = inl e
      at (no d) = inr (h d, ap (λ (m : ℕ). bit m a) (sym (members_column d)) ∙ bit_with_same x a)

-- the bit of the right side
module _ (n a : ℕ) where
  pub right_bit_row : a ≡ row → n ≡ right_bit n a
  unfolding right_bit
  right_bit_row e = sym (if_eq_yes a e)

  pub right_bit_column : (a ≡ row → ⊥) → a ≡ right_bit n a
  unfolding right_bit
  right_bit_column d = sym (if_eq_no n d)

  module _ (h : (a ≡ row → ⊥) → a < n) where
    right_bit_le : right_bit n a ≤ n
    right_bit_le = at (ℕ_discrete a row)
      where
        at : Dec (a ≡ row) → right_bit n a ≤ n
        at (yes e) = omega (arith, right_bit_row e)
        at (no d) = omega (arith, right_bit_column d, h d)

    right_bit_right : right_at n (right_bit n a) ≡ a
    right_bit_right = at (ℕ_discrete a row)
      where
        at : Dec (a ≡ row) → right_at n (right_bit n a) ≡ a
        at (yes e) = ap (right_at n) (sym (right_bit_row e)) ∙ right_row n n refl ∙ sym e
        at (no d) =
            let l = h d in
            let far : a ≡ n → ⊥ = omega arith in
            ap (right_at n) (sym (right_bit_column d)) ∙ right_column n a far

    -- of this one right, what is given tells whether it is
    module _ (keys : List ℕ) (end x r : ℕ) (given : Given keys n end x (2 ^ right_bit n a) r) where
      told : (t : Bool) → holds (key_view keys n end) x a ≡ t → not (eqb r 0) ≡ t
      told true e =
          let j = right_bit n a in
          let b : bit r j ≡ 1 =
          (given j).1 (bit_power_same j, right_bit_le, ap (holds (key_view keys n end) x) right_bit_right ∙ e) in
          let some : r ≡ 0 → ⊥ = λ z. omega (arith, bit_none j, ap (λ (m : ℕ). bit m j) (sym z) ∙ b) in
          ap not (ne_eqb r 0 some)
      told false e =
          let none : r ≡ 0 =
          bits_same r r 0 (below_own_power r) (pow_pos r) (λ k l. bit_zero_if r k (off k) ∙ sym (bit_none k)) in
          ap not (eq-eqb r 0 none)
        where
          off : (k : ℕ) → bit r k ≡ 1 → ⊥
          off k b = at (ℕ_discrete k (right_bit n a)) ((given k).0 b)
            where
              at : Dec (k ≡ right_bit n a)
                  → (bit (2 ^ right_bit n a) k ≡ 1) × (k ≤ n) × (holds (key_view keys n end) x (right_at n k) ≡ true) → ⊥
              at (no d) (i, l, t) = omega (arith, bit_power_other k (right_bit n a) d)
              at (yes d) (i, l, t) =
                  let f = ap (λ (m : ℕ). holds (key_view keys n end) x (right_at n m)) d
                  ∙ ap (holds (key_view keys n end) x) right_bit_right ∙ e in
                  let z : ◌≡◌ {A = ℕ} 0 1 = cc in
                  omega arith

      pub given_holds : {v : View} → Keyed v (members_asked x a) n end keys → not (eqb r 0) ≡ holds v x a
      given_holds {v} keyed =
          told (holds (key_view keys n end) x a) refl
          ∙ sym (keyed_holds keyed x a (left_within x a (key_view keys n end)) (right_keyed x a n h))

-- a question that is not refused, and the keys that are laid for it
module _ {b : List ℕ} {t x a : ℕ} (posed : Posed b t x a) where
  pub posed_few : {n : ℕ} → n ≡ visible b t → n ≤ column_bound
  posed_few e = omega (arith, accepted_visible b posed.accepted t posed.target)

  pub posed_right : {n : ℕ} → n ≡ visible b t → (a ≡ row → ⊥) → a < n
  posed_right e d = omega (arith, posed.right d)

  pub posed_bound : (a ≡ row → ⊥) → a < column_bound
  posed_bound d = omega (arith, posed.right d, accepted_visible b posed.accepted t posed.target)

  pub posed_keyed : {m : ℕ} {keys : List ℕ} → m ≡ members_asked x a → LaidFor (view b t) m keys
      → Keyed (view b t) (members_asked x a) (visible b t) (rows b t) keys
  posed_keyed {m} {keys} e laid =
      laid_catalogue b t (members_asked x a) keys posed.accepted posed.target
      (subst (λ (s : ℕ). LaidFor (view b t) s keys) e laid)

  keyed_by : {n end : ℕ} {keys : List ℕ} → n ≡ visible b t → end ≡ rows b t
      → Keyed (view b t) (members_asked x a) (visible b t) (rows b t) keys
      → Keyed (view b t) (members_asked x a) n end keys
  keyed_by {n} {end} {keys} e f h =
      subst (λ (k : ℕ). Keyed (view b t) (members_asked x a) k end keys) (sym e)
      (subst (λ (k : ℕ). Keyed (view b t) (members_asked x a) (visible b t) k keys) (sym f) h)

  pub posed_holds : {n end w : ℕ} {keys : List ℕ} (r : ℕ) → n ≡ visible b t → end ≡ rows b t → w ≡ 2 ^ right_bit n a
      → Keyed (view b t) (members_asked x a) (visible b t) (rows b t) keys → Given keys n end x w r
      → not (eqb r 0) ≡ holds (view b t) x a
  posed_holds {n} {end} {w} {keys} r e f g keyed given =
      given_holds n a (posed_right e) keys end x r (subst (λ (m : ℕ). Given keys n end x m r) g given)
      (keyed_by e f keyed)

  pub posed_pair : {n end : ℕ} {keys : List ℕ} → n ≡ visible b t → end ≡ rows b t
      → Keyed (view b t) (members_asked x a) (visible b t) (rows b t) keys
      → first_pair (key_view keys n end) x a ≡ first_pair (view b t) x a
  posed_pair {n} {end} {keys} e f keyed =
      sym
      (keyed_pair (keyed_by e f keyed) x a (left_within x a (key_view keys n end)) (right_keyed x a n (posed_right e)))
