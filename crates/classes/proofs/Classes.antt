-- Numbers of rows, row by row and member by member.
use Prim.Native.Nat.{ℕ, ◌+◌, ◌^◌, ◌≤◌}
use mathlib.Core.Path.{◌≡◌, sym, ap, subst, ◌∙◌}
use mathlib.Core.List.{List}
use native.Mathlib.Decide.{ℕ_discrete}
use native.Mathlib.Omega.{arith}
use lib.Bits.{bit_or}
use lib.Dec.{eqb}
use lib.Pow.{pow_mono}
use Rattle.columns.specs.Set.{bit}
use Rattle.columns.proofs.Bits.{bit_past}
use Rattle.model.specs.Bounds.{row_bound}
use Rattle.table.proofs.Bits.{bit_with_other, with_below}
use Rattle.classes.specs.Classes.{number_at, OnlyMember, SameClasses}
use Rattle.classes.specs.Classes.{Numbered}

-- other members keep their classes
classes_kept : {keys : List ℕ} {k j end : ℕ} {before after : List ℕ} → end ≤ row_bound → (j ≡ k → ⊥)
    → OnlyMember k before after → SameClasses keys j end before → SameClasses keys j end after
classes_kept {keys} {k} {j} {end} {before} {after} short d only h = record {
  classes = λ p q l m.
      let e : number_at after j p ≡ number_at before j p = only.others j p d (omega arith) in
      let f : number_at after j q ≡ number_at before j q = only.others j q d (omega arith) in
      ap (λ (x : ℕ). eqb x (number_at after j q)) e ∙ ap (eqb (number_at before j p)) f ∙ h.classes p q l m;
}

-- a member more is left out, or numbered
pub numbered_skipped : {keys : List ℕ} {k end few : ℕ} {before after : List ℕ} → end ≤ row_bound
    → OnlyMember k before after → Numbered keys k end few before → Numbered keys (k + 1) end few after
numbered_skipped {keys} {k} {end} {few} short only h = record {
  long = only.same_length ∙ h.long;
  members = omega (arith, h.members, pow_mono {i = k} {j = k + 1} (omega arith));
  same = λ j i. classes_kept short (λ u. omega (arith, bit_past few k j h.members (omega arith))) only (h.same j i);
}

pub numbered_more : {keys : List ℕ} {k end few r : ℕ} {before after : List ℕ} → end ≤ row_bound → r ≡ 2 ^ k
    → OnlyMember k before after → SameClasses keys k end after → Numbered keys k end few before
    → Numbered keys (k + 1) end (bit_or few r) after
numbered_more {keys} {k} {end} {few} {r} {before} {after} short e only classes h =
    rw e (record {
      long = only.same_length ∙ h.long;
      members = with_below (k + 1) few k (omega (arith, h.members, pow_mono {i = k} {j = k + 1} (omega arith)))
          (omega arith);
      same = λ j i. at j i (ℕ_discrete j k);
    })
  where
    at : (j : ℕ) → bit (bit_or few (2 ^ k)) j ≡ 1 → Dec (j ≡ k) → SameClasses keys j end after
    at j i (yes e) = subst (λ (m : ℕ). SameClasses keys m end after) (sym e) classes
    at j i (no d) = classes_kept short d only (h.same j (sym (bit_with_other few j k d) ∙ i))
