-- The backed sets of a target are covered exactly if those of each of its rights are: one right by planes, and all of
-- them one by one, from the first own column to the row.
use Prim.Native.Nat.{ℕ, ◌^◌, ◌≤◌, ◌<◌}
use mathlib.Core.Path.{◌≡◌, sym, ap, subst, ◌∙◌}
use mathlib.Core.Logic.{◌↔◌, inl, inr}
use mathlib.Core.Bool.{Bool, true}
use mathlib.Core.List.{List}
use native.Mathlib.Decide.{ℕ_discrete}
use native.Mathlib.Omega.{arith}
use Rattle.columns.specs.Bound.{column_bound}
use Rattle.columns.specs.Set.{bit}
use Rattle.model.specs.Bounds.{row}
use Rattle.model.specs.Catalogue.{tables, visible, inherited}
use Rattle.model.specs.Check.{Accepted}
use Rattle.model.specs.Evidence.{TrueRecord}
use Rattle.model.specs.Question.{sides_code}
use Rattle.model.specs.Rights.{right_at}
use Rattle.model.specs.Verify.{Covered, SoundEntries}
use Rattle.model.specs.View.{View, In, Backed}
use Rattle.model.specs.Target.{view}
use Rattle.model.specs.declared.Entry.{Entry}
use Rattle.model.specs.declared.Evidence.{Evidence}
use Rattle.model.proofs.Check.{accepted_visible}
use Rattle.model.proofs.Climb.{inherited_visible}
use Rattle.model.proofs.Rights.{right_at_row, right_at_column}
use Rattle.table.proofs.Table.{right_in, right_row, right_column, bit_zero_if}
use Rattle.evidence.specs.Lists.{Each}
use Rattle.evidence.specs.Sides.{LeftsWithin, SetsWithin}
use Rattle.evidence.proofs.Answers.{same_answer}
use Rattle.evidence.proofs.Sides.{sides_own, OwnRight}
use Rattle.planes.specs.Plane.{BackedPlane}
use Rattle.marks.specs.Marks.{CoveredBy}
use Rattle.marks.specs.Listed.{LeftsClosed, SetsClosed}
use Rattle.marks.proofs.Closed.{all_covered_is}
use Rattle.coverage.specs.Covered.{RightCovered, TargetCovered}

-- one right, by planes that were closed for it
pub right_covered_is : (v : View) (es : List Entry) (rs : List Evidence) (target right n m a : ℕ)
    (backed keys lefts sets : List ℕ) {r : Bool} → right ≡ right_at n a → n ≤ m → v.members ≡ n
    → BackedPlane v backed → LeftsClosed es target row m keys → LeftsClosed es target right m lefts
    → SetsClosed rs target right m sets
    → (r ≡ true) ↔ ((x : ℕ) → x < 2 ^ n → CoveredBy backed keys lefts sets m a x)
    → (r ≡ true) ↔ RightCovered v es rs target n a
right_covered_is v es rs target right n m a backed keys lefts sets {r} e h en plane key left set all =
    let is = all_covered_is v es rs target right n m a backed keys lefts sets h en plane key left set in
    subst (λ (c : ℕ). (r ≡ true) ↔ ((x : ℕ) → x < 2 ^ n → bit x a ≡ 0 → Backed v x → Covered es rs target c x)) e
    (same_answer is.0 is.1 all)

-- the sets of entries and records that 8 to 10 allow are sets of the target's columns
module _ (cat : List ℕ) (target n : ℕ) (en : n ≡ visible cat target) where
  allowed_below : (x a t : ℕ) → sides_code cat t x a ≡ 0 → t ≡ target → x < 2 ^ n
  allowed_below x a t e is =
      subst (λ (k : ℕ). x < 2 ^ k) (ap (visible cat) is ∙ sym en) ((sides_own cat t x a).0 e).1

  pub lefts_within : (es : List Entry) → SoundEntries cat es → LeftsWithin n target es
  lefts_within es sound e m = allowed_below e.left e.right e.target (sound e m).allowed

  pub sets_within : (rs : List Evidence) → Each (TrueRecord cat) rs → SetsWithin n target rs
  sets_within rs true-records e m = allowed_below e.set e.right e.target (true-records e m).allowed

-- all rights of a target
module _ (cat : List ℕ) (ok : Accepted cat) (target n low : ℕ) (known : target < tables cat)
    (en : n ≡ visible cat target) (el : low ≡ inherited cat target) where
  few : n ≤ column_bound
  few = omega (arith, accepted_visible cat ok target known)

  low_first : low ≤ n
  low_first = omega (arith, inherited_visible cat target)

  -- a bit from low to n stands for a right of the target
  own_right : (a : ℕ) → low ≤ a → a ≤ n → OwnRight cat target (right_at n a)
  own_right a l h = at (ℕ_discrete a n)
    where
      at : Dec (a ≡ n) → OwnRight cat target (right_at n a)
      at (yes e) = inl (right_row n a e)
      at (no d) = let r = right_column n a d in inr (omega arith, omega arith)

  -- and each right of it has such a bit
  own_bit : (right : ℕ) → OwnRight cat target right → (a : ℕ) × (low ≤ a) × (a ≤ n) × (right ≡ right_at n a)
  own_bit right (inl e) = (n, low_first, omega arith, e ∙ sym (right_at_row n))
  own_bit right (inr w) =
      let l = w.0 in
      let u = w.1 in
      (right, omega arith, omega arith, sym (right_at_column n right (omega arith)))

  module _ (es : List Entry) (rs : List Evidence) where
    -- the backed sets of the target are covered if those of each right from low to n are
    rights_target : ((a : ℕ) → low ≤ a → a ≤ n → RightCovered (view cat target) es rs target n a)
        → TargetCovered cat es rs target
    rights_target all x right c =
        let w = (sides_own cat target x right).0 c.allowed in
        let b = own_bit right w.2 in
        let below : x < 2 ^ n = subst (λ (k : ℕ). x < 2 ^ k) (sym en) w.1 in
        let outside : bit x b.0 ≡ 0 = bit_zero_if x b.0
        (λ i. c.outside (subst (λ (a : ℕ). In a x) (sym b.3) ((right_in n x b.0 few below b.2).1 i))) in
        subst (λ (a : ℕ). Covered es rs target a x) (sym b.3)
        (all b.0 b.1 b.2 x below outside c.backed)

    -- and only if
    target_rights : TargetCovered cat es rs target → (a : ℕ) → low ≤ a → a ≤ n
        → RightCovered (view cat target) es rs target n a
    target_rights all a l h x below outside witnessed =
        let seen : x < 2 ^ visible cat target = subst (λ (k : ℕ). x < 2 ^ k) en below in
        all x (right_at n a) (record {
          allowed = (sides_own cat target x (right_at n a)).1 (known, seen, own_right a l h);
          outside = λ i. omega (arith, outside, (right_in n x a few below h).0 i);
          backed = witnessed;
        })

    pub rights_covered_is : ((a : ℕ) → low ≤ a → a ≤ n → RightCovered (view cat target) es rs target n a)
        ↔ TargetCovered cat es rs target
    rights_covered_is = (rights_target, target_rights)
