-- What the filter keeps of the minimal rights is what is listed: none if the left side is not backed, the row alone if
-- it is a key, and else all.
use Prim.Native.Nat.{ℕ, zero, suc, ◌+◌, ◌^◌, ◌≤◌, ◌<◌}
use mathlib.Core.Path.{◌≡◌, refl, sym, ap, ap₂, ◌∙◌}
use mathlib.Core.Logic.{inr}
use mathlib.Core.Bool.{Bool, true, false, not, ◌&&◌, ◌||◌}
use native.Mathlib.Omega.{arith}
use lib.Dec.{eqb}
use Rattle.columns.specs.Bound.{column_bound}
use Rattle.columns.specs.Set.{bit, set_below}
use Rattle.columns.specs.Test.{pick}
use Rattle.columns.proofs.Bits.{bit_past}
use Rattle.columns.proofs.SetBelow.{set_below_bit, set_below_same}
use Rattle.columns.proofs.Test.{if_eq_yes, if_eq_no}
use Rattle.model.specs.Bounds.{row}
use Rattle.model.specs.Rights.{right_at}
use Rattle.model.specs.View.{View, Equivalence, is_in, holds, minimal, backed}
use Rattle.model.specs.Listed.{listed}
use Rattle.model.proofs.Truth.{is_true, true_is, is_false, false_is, eqb_is}
use Rattle.model.proofs.View.{true_holds, minimal_is}
use Rattle.model.proofs.Minimal.{key_minimal}
use Rattle.model.proofs.Listed.{undropped_is}
use Rattle.model.proofs.Contains.{row_outside}
use Rattle.model.proofs.Rights.{right_at_row, right_at_column}
use Rattle.table.specs.Broken.{minimal_mask}
use Rattle.rights.specs.Kept.{undropped, kept}
use Rattle.rights.specs.Rights.{listed_mask}

-- what passes one test and another that fails: nothing
never : (t : Bool) → (t && false) ≡ false
never true = refl
never false = refl

none : (n : ℕ) (f : ℕ → Bool) → ((k : ℕ) → k < n → f k ≡ false) → set_below n f ≡ 0
unfolding set_below
none zero f fails = refl
none (suc n) f fails =
    ap₂ (λ (s : ℕ) (t : Bool). s + pick t (2 ^ n) 0) (none n f (λ k l. fails k (omega arith))) (fails n (omega arith))

-- by the row's bit
pub undropped_key : (n m : ℕ) {r : ℕ} → bit m n ≡ 1 → r ≡ 2 ^ n → r ≡ undropped n m
unfolding undropped
undropped_key n m e is = is ∙ sym (if_eq_yes m e)

pub undropped_all : (n m : ℕ) → (bit m n ≡ 1 → ⊥) → m ≡ undropped n m
unfolding undropped
undropped_all n m other = sym (if_eq_no (2 ^ n) other)

-- a view whose rights, as a mask, have the row
module _ (v : View) (own x : ℕ) (eq : Equivalence v) (few : v.members ≤ column_bound) (below : x < 2 ^ v.members)
    (rowed : bit own v.members ≡ 1) where
  abbrev right : ℕ → ℕ
  right k = right_at v.members k

  -- a right of the mask is minimal; it is not dropped either
  abbrev found : ℕ → Bool
  found k = is_in k own && minimal v x (right k)

  abbrev stays : ℕ → Bool
  stays k = is_in k own && (minimal v x (right k) && (eqb (right k) row || not (holds v x row)))

  asked : is_in v.members own ≡ true
  asked = is_true ((eqb_is (bit own v.members) 1).1 rowed)

  -- the row's bit of the minimal rights
  row_bit : bit (minimal_mask v own x) v.members ≡ pick (minimal v x row) 1 0
  row_bit =
      set_below_bit (suc v.members) found v.members (omega arith)
      ∙ ap₂ (λ (t : Bool) (a : ℕ). pick {A = ℕ} (t && minimal v x a) 1 0) asked (right_at_row v.members)

  -- a minimal key: of the rights only the row is not dropped
  key_alone : minimal v x row ≡ true → set_below (suc v.members) stays ≡ 2 ^ v.members
  unfolding set_below
  key_alone m =
      ap₂ (λ (s : ℕ) (t : Bool). s + pick t (2 ^ v.members) 0) (none v.members stays columns) last
      ∙ omega arith
    where
      key : holds v x row ≡ true
      key = true_holds v x row ((minimal_is v x row).0 (true_is m)).holds

      columns : (k : ℕ) → k < v.members → stays k ≡ false
      columns k l =
          let other : eqb (right k) row ≡ false =
          is_false (λ t. omega (arith, (eqb_is (right k) row).0 t, right_at_column v.members k l)) in
          ap₂ (λ (s t : Bool). is_in k own && (minimal v x (right k) && (s || not t))) other key
          ∙ ap (λ (t : Bool). is_in k own && t) (never (minimal v x (right k)))
          ∙ never (is_in k own)

      last : stays v.members ≡ true
      last =
          ap₂ (λ (s : Bool) (a : ℕ). s && (minimal v x a && (eqb a row || not (holds v x row)))) asked
          (right_at_row v.members)
          ∙ ap (λ (t : Bool). t && true) m

  -- no minimal key: what is minimal is not dropped, since a key among it would be a minimal one
  no_key : minimal v x row ≡ false → minimal_mask v own x ≡ set_below (suc v.members) stays
  no_key n = set_below_same (suc v.members) found stays (λ k l. same k (minimal v x (right k)) refl)
    where
      same : (k : ℕ) (t : Bool) → minimal v x (right k) ≡ t
          → (is_in k own && t) ≡ (is_in k own && (t && (eqb (right k) row || not (holds v x row))))
      same k false e = refl
      same k true e =
          let kept = is_true ((undropped_is v x (right k)).1
          (inr (λ key. false_is n ((minimal_is v x row).1
          (key_minimal v eq x (right k) (row_outside v.members x few below) key
          ((minimal_is v x (right k)).0 (true_is e))))))) in
          ap (λ (t : Bool). is_in k own && t) (sym kept)

  stays_is : undropped v.members (minimal_mask v own x) ≡ set_below (suc v.members) stays
  stays_is = at (minimal v x row) refl
    where
      at : (t : Bool) → minimal v x row ≡ t
          → undropped v.members (minimal_mask v own x) ≡ set_below (suc v.members) stays
      at true e =
          sym (undropped_key v.members (minimal_mask v own x) (row_bit ∙ ap (λ (t : Bool). pick t 1 0) e) refl)
          ∙ sym (key_alone e)
      at false e =
          let z = row_bit ∙ ap (λ (t : Bool). pick {A = ℕ} t 1 0) e in
          sym (undropped_all v.members (minimal_mask v own x) (λ o. omega arith)) ∙ no_key e

  pub kept_listed : kept v x (minimal_mask v own x) ≡ listed_mask v own x
  unfolding kept listed
  kept_listed = at (backed v x)
    where
      at : (b : Bool)
          → pick b (undropped v.members (minimal_mask v own x)) 0
          ≡ set_below (suc v.members) (λ k. is_in k own
          && (b && (minimal v x (right k) && (eqb (right k) row || not (holds v x row)))))
      at true = stays_is
      at false = sym (none (suc v.members) (λ k. is_in k own && false) (λ k l. never (is_in k own)))

-- of no rights none is kept, whatever is backed
pub kept_none : (v : View) (x minimal : ℕ) → minimal ≡ 0 → 0 ≡ kept v x minimal
unfolding kept
kept_none v x minimal e = at (backed v x)
  where
    zero_bit : bit minimal v.members ≡ 0
    zero_bit = ap (λ (m : ℕ). bit m v.members) e ∙ bit_past 0 0 v.members (omega arith) (omega arith)

    at : (b : Bool) → 0 ≡ pick b (undropped v.members minimal) 0
    at true = sym e ∙ undropped_all v.members minimal (λ o. omega (arith, zero_bit))
    at false = refl

pub kept_backed : (v : View) (x n minimal r : ℕ) → v.members ≡ n → backed v x ≡ true → r ≡ undropped n minimal
    → r ≡ kept v x minimal
unfolding kept
kept_backed v x n minimal r m e is =
    is ∙ ap (λ (k : ℕ). undropped k minimal) (sym m)
    ∙ sym (ap (λ (b : Bool). pick b (undropped v.members minimal) 0) e)

pub kept_no : (v : View) (x minimal : ℕ) → backed v x ≡ false → 0 ≡ kept v x minimal
unfolding kept
kept_no v x minimal e = sym (ap (λ (b : Bool). pick b (undropped v.members minimal) 0) e)
