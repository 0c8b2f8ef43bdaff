-- Keys that are right for a view tell all that the view tells of rows on the members of their set: leaders, what
-- holds, which rows break it, agree sets, minimal rights.
use Prim.Native.Nat.{ℕ, zero, suc, ◌-◌, ◌^◌, ◌≤◌, ◌<◌}
use mathlib.Core.Path.{◌≡◌, refl, sym, ap, ap₂, subst, ◌∙◌}
use mathlib.Core.Logic.{◌⊎◌, inl, inr, ◌↔◌}
use mathlib.Core.Bool.{Bool, true, false, not, ◌&&◌, ◌||◌}
use mathlib.Core.List.{List}
use native.Mathlib.Decide.{ℕ_discrete}
use native.Mathlib.Omega.{arith}
use borrow.Author.Tests.{eq-eqb}
use lib.Dec.{T, eqb, ltb, ltb→lt}
use Rattle.columns.specs.Bound.{column_bound}
use Rattle.columns.specs.Set.{set_below, without_of}
use Rattle.columns.specs.Test.{pick}
use Rattle.columns.proofs.Bits.{bit_full}
use Rattle.columns.proofs.SetBelow.{set_below_same}
use Rattle.model.specs.Bounds.{row_bound, row}
use Rattle.model.specs.View.{View, Equivalence, In, is_in, Within, AgreeOn, agree_on, agree_right, holds, minimal}
use Rattle.model.specs.View.{breaks, all_below}
use Rattle.model.specs.Pair.{first_pair}
use Rattle.model.proofs.Truth.{eqb_is, same_test}
use Rattle.model.proofs.View.{is_in_is, without_within}
use Rattle.model.proofs.Pair.{same_pair}
use Rattle.table.specs.Broken.{agree_set_of, Occurs, minimal_mask}
use Rattle.model.specs.Rights.{right_at}
use Rattle.table.proofs.Bits.{bit_power_same, bit_power_other}
use Rattle.table.proofs.Table.{right_row, right_column}
use Rattle.leaders.specs.Keys.{key_at, key_view, LaidFor, Keyed}
use Rattle.leaders.proofs.Leaders.{same_leader}

-- to have equal numbers is an equivalence
pub numbers_equivalence : (f : ℕ → ℕ → ℕ) (n end : ℕ)
    → Equivalence
    (record { rows = end; members = n; agree = λ k p q. eqb (f k p) (f k q); present = λ k p. true })
numbers_equivalence f n end = record {
  reflexive = λ k p. (eqb_is (f k p) (f k p)).1 refl;
  symmetric = λ k p q t. (eqb_is (f k q) (f k p)).1 (sym ((eqb_is (f k p) (f k q)).0 t));
  transitive = λ k p q r t u. (eqb_is (f k p) (f k r)).1 ((eqb_is (f k p) (f k q)).0 t ∙ (eqb_is (f k q) (f k r)).0 u);
}

pub key_equivalence : (keys : List ℕ) (n end : ℕ) → Equivalence (key_view keys n end)
key_equivalence keys n end = numbers_equivalence (key_at keys) n end

-- to agree on the left side of one member is to agree on it
pub agree_on_one : (v : View) (k p q : ℕ) → k < v.members → AgreeOn v (2 ^ k) p q ↔ T (v.agree k p q)
agree_on_one v k p q l = (λ h. h k l (bit_power_same k), λ t j m i. at j i t (ℕ_discrete j k))
  where
    at : (j : ℕ) → In j (2 ^ k) → T (v.agree k p q) → Dec (j ≡ k) → T (v.agree j p q)
    at j i t (yes e) = subst (λ (m : ℕ). T (v.agree m p q)) (sym e) t
    at j i t (no n) = absurd (omega (arith, bit_power_other j k n))

-- keys that are leaders on one member are right
pub laid_keyed : (v : View) (set : ℕ) (keys : List ℕ) → Equivalence v → v.members ≤ column_bound → v.rows ≤ row_bound
    → LaidFor v set keys → Keyed v set v.members v.rows keys
laid_keyed v set keys eq few short laid = record {
  rows = refl;
  members = refl;
  few = few;
  short = short;
  same = λ k p q l i lp lq.
      let leader = same_leader v eq (2 ^ k) p q in
      let one = agree_on_one v k p q l in
      let key = eqb_is (key_at keys k p) (key_at keys k q) in
      same_test (v.agree k p q) (eqb (key_at keys k p) (key_at keys k q))
      (λ t. key.1 (laid k p l i lp ∙ leader.0 (one.1 t) ∙ sym (laid k q l i lq)))
      (λ t. one.0 (leader.1 (sym (laid k p l i lp) ∙ key.0 t ∙ laid k q l i lq)));
}

-- the same tests, the same answer
all_below_same : (n : ℕ) (f g : ℕ → Bool) → ((k : ℕ) → k < n → f k ≡ g k) → all_below n f ≡ all_below n g
unfolding all_below
all_below_same zero f g e = refl
all_below_same (suc n) f g e = ap₂ ◌&&◌ (e n (omega arith)) (all_below_same n f g (λ k l. e k (omega arith)))

implied_same : (t a b : Bool) → (T t → a ≡ b) → (not t || a) ≡ (not t || b)
implied_same true a b e = e tt
implied_same false a b e = refl

both_same : (t : Bool) {a b : Bool} → (T t → a ≡ b) → (t && a) ≡ (t && b)
both_same true e = e tt
both_same false e = refl

-- a right side that keys tell of: the row, or a member that they are laid for
abbrev pub KeyedRight : ℕ → ℕ → ℕ → Type 0
KeyedRight n set a = (a ≡ row) ⊎ ((a < n) × In a set)

module _ {v : View} {set n end : ℕ} {keys : List ℕ} (keyed : Keyed v set n end keys) where
  pub keyed_agree_on : (y p q : ℕ) → Within (key_view keys n end) y set → p < end → q < end
      → agree_on v y p q ≡ agree_on (key_view keys n end) y p q
  unfolding agree_on
  keyed_agree_on y p q within lp lq =
      ap (λ (m : ℕ). all_below m (λ k. not (is_in k y) || v.agree k p q)) keyed.members
      ∙ all_below_same n (λ k. not (is_in k y) || v.agree k p q)
      (λ k. not (is_in k y) || eqb (key_at keys k p) (key_at keys k q))
      (λ k l. implied_same (is_in k y) (v.agree k p q) (eqb (key_at keys k p) (key_at keys k q))
      (λ t. keyed.same k p q l (within k l ((is_in_is k y).0 t)) lp lq))

  pub keyed_right : (a p q : ℕ) → KeyedRight n set a → p < end → q < end
      → agree_right v a p q ≡ agree_right (key_view keys n end) a p q
  keyed_right a p q (inl e) lp lq = by_row (v.agree a p q) ∙ sym (by_row (eqb (key_at keys a p) (key_at keys a q)))
    where
      by_row : (t : Bool) → pick (eqb a row) (eqb p q) t ≡ eqb p q
      by_row t = ap (λ (s : Bool). pick s (eqb p q) t) (eq-eqb a row e)
  keyed_right a p q (inr i) lp lq =
      ap (λ (t : Bool). pick (eqb a row) (eqb p q) t) (keyed.same a p q i.0 i.1 lp lq)

  pub keyed_holds : (y a : ℕ) → Within (key_view keys n end) y set → KeyedRight n set a
      → holds v y a ≡ holds (key_view keys n end) y a
  unfolding holds
  keyed_holds y a within right =
      ap (λ (m : ℕ). all_below m (λ p. all_below m (λ q. not (agree_on v y p q) || agree_right v a p q))) keyed.rows
      ∙ all_below_same end (λ p. all_below end (λ q. not (agree_on v y p q) || agree_right v a p q))
      (λ p. all_below end (λ q. not (agree_on w y p q) || agree_right w a p q))
      (λ p lp. all_below_same end (λ q. not (agree_on v y p q) || agree_right v a p q)
      (λ q. not (agree_on w y p q) || agree_right w a p q)
      (λ q lq. ap₂ (λ (s t : Bool). not s || t) (keyed_agree_on y p q within lp lq) (keyed_right a p q right lp lq)))
    where
      w : View
      w = key_view keys n end

  pub keyed_pair : (y a : ℕ) → Within (key_view keys n end) y set → KeyedRight n set a
      → first_pair v y a ≡ first_pair (key_view keys n end) y a
  unfolding breaks
  keyed_pair y a within right = same_pair v w y a same
    where
      w : View
      w = key_view keys n end

      same : (p q : ℕ) → breaks v y a p q ≡ breaks w y a p q
      same p q =
          ap (λ (m : ℕ). ltb p q && (ltb q m && (agree_on v y p q && not (agree_right v a p q)))) keyed.rows
          ∙ both_same (ltb p q) (λ t. both_same (ltb q end) (λ u. sides (ltb→lt p q t) (ltb→lt q end u)))
        where
          sides : p < q → q < end → (agree_on v y p q && not (agree_right v a p q))
              ≡ (agree_on w y p q && not (agree_right w a p q))
          sides l h =
              ap₂ (λ (s t : Bool). s && not t) (keyed_agree_on y p q within (omega arith) h)
              (keyed_right a p q right (omega arith) h)

  pub keyed_minimal : (y a : ℕ) → Within (key_view keys n end) y set → KeyedRight n set a
      → minimal v y a ≡ minimal (key_view keys n end) y a
  unfolding minimal
  keyed_minimal y a within right =
      ap₂ (λ (s t : Bool). s && (not (is_in a y) && t)) (keyed_holds y a within right)
      (ap (λ (m : ℕ). all_below m (λ k. not (is_in k y) || not (holds v (without_of y k) a))) keyed.members
      ∙ all_below_same n (λ k. not (is_in k y) || not (holds v (without_of y k) a))
      (λ k. not (is_in k y) || not (holds w (without_of y k) a))
      (λ k l. ap (λ (t : Bool). not (is_in k y) || not t)
      (keyed_holds (without_of y k) a (λ j m i. within j m (without_within w y k j m i)) right)))
    where
      w : View
      w = key_view keys n end

-- with keys of every member
right_keyed : (n a : ℕ) → a ≤ n → KeyedRight n (2 ^ n - 1) (right_at n a)
right_keyed n a h = at (ℕ_discrete a n)
  where
    at : Dec (a ≡ n) → KeyedRight n (2 ^ n - 1) (right_at n a)
    at (yes e) = inl (right_row n a e)
    at (no d) =
        subst (KeyedRight n (2 ^ n - 1)) (sym (right_column n a d)) (inr (omega arith, bit_full n a (omega arith)))

module _ {v : View} {n end : ℕ} {keys : List ℕ} (keyed : Keyed v (2 ^ n - 1) n end keys) where
  pub keyed_agree_set : (p q : ℕ) → p < end → q < end → agree_set_of v p q ≡ agree_set_of (key_view keys n end) p q
  keyed_agree_set p q lp lq =
      ap (λ (m : ℕ). set_below m (λ k. v.agree k p q)) keyed.members
      ∙ set_below_same n (λ k. v.agree k p q) (λ k. eqb (key_at keys k p) (key_at keys k q))
      (λ k l. keyed.same k p q l (bit_full n k l) lp lq)

  -- an agree set occurs by keys exactly if it does in the view
  pub keyed_occurs : (s : ℕ) → Occurs (key_view keys n end) s ↔ Occurs v s
  keyed_occurs s = (
    λ f.
        let i = f.2.0 in
        let j = f.2.1 in
        (f.0, f.1, (i, omega (arith, r)), keyed_agree_set f.0 f.1 (omega arith) j ∙ f.3),
    λ f.
        let i = f.2.0 in
        let j : f.1 < end = omega (arith, r, f.2.1) in
        (f.0, f.1, (i, j), sym (keyed_agree_set f.0 f.1 (omega arith) j) ∙ f.3),
  )
    where
      r : v.rows ≡ end
      r = keyed.rows

  pub keyed_rights : (own x : ℕ) → minimal_mask v own x ≡ minimal_mask (key_view keys n end) own x
  keyed_rights own x =
      ap (λ (m : ℕ). set_below (suc m) (λ a. is_in a own && minimal v x (right_at m a))) keyed.members
      ∙ set_below_same (suc n) (λ a. is_in a own && minimal v x (right_at n a))
      (λ a. is_in a own && minimal (key_view keys n end) x (right_at n a))
      (λ a l. ap (λ (t : Bool). is_in a own && t)
      (keyed_minimal keyed x (right_at n a) (λ k l i. bit_full n k l) (right_keyed n a (omega arith))))
