-- From planes to words: which entries are sound in a view, for one right and for all, and in a catalogue.
use Prim.Native.Nat.{ℕ, ◌+◌, ◌^◌, ◌≤◌, ◌<◌}
use mathlib.Core.Path.{◌≡◌, refl, sym, ap, subst, ◌∙◌}
use mathlib.Core.Logic.{◌⊎◌, inl, inr, ◌↔◌}
use mathlib.Core.Bool.{Bool, true, false}
use mathlib.Core.List.{List, Memᴰ}
use native.Mathlib.Omega.{arith}
use Rattle.columns.specs.Bound.{column_bound}
use Rattle.model.specs.Bounds.{row}
use Rattle.model.specs.Catalogue.{tables, visible, inherited}
use Rattle.model.specs.Rights.{right_at}
use Rattle.model.specs.View.{View, Holds, Backed, Equivalence, holds}
use Rattle.model.specs.Target.{view}
use Rattle.model.specs.Contains.{EntryFor}
use Rattle.model.specs.Verify.{NoOther, NoKey, SoundEntry}
use Rattle.model.specs.declared.Entry.{Entry}
use Rattle.model.proofs.Rights.{right_at_row, right_at_column}
use Rattle.model.proofs.View.{holds_true, holds_false}
use Rattle.planes.specs.Bits.{plane_bit, PlaneFrom}
use Rattle.planes.specs.Plane.{SeedsBelow, Plane, BackedPlane}
use Rattle.planes.proofs.Plane.{seeds_filled_plane}
use Rattle.evidence.specs.Lists.{Each}
use Rattle.evidence.specs.Sides.{SidesFit, LeftsWithin}
use Rattle.evidence.proofs.Sides.{sides_own, lefts_narrow}
use Rattle.marks.specs.Listed.{LeftsClosed, SoundBy}
use Rattle.marks.proofs.Sound.{sound_for_is}
use Rattle.soundness.specs.Sound.{FitsFor, SoundIn, SoundFor}

-- a left is not broken on the plane of a right exactly if it gives the right
unbroken_is : (v : View) (a : ℕ) (plane : List ℕ) (x : ℕ) → Plane v a plane → x < 2 ^ v.members
    → (plane_bit plane x ≡ 0) ↔ Holds v x (right_at v.members a)
unbroken_is v a plane x is l = (
  λ z. at (holds v x (right_at v.members a)) refl z,
  λ h. zero (plane_bit plane x) (omega arith) (λ o. holds_false v x _ ((is x l).0 o) h),
)
  where
    zero : (b : ℕ) → b < 2 → (b ≡ 1 → ⊥) → b ≡ 0
    zero b s n = omega arith

    at : (t : Bool) → holds v x (right_at v.members a) ≡ t → plane_bit plane x ≡ 0
        → Holds v x (right_at v.members a)
    at true e z = holds_true v x _ e
    at false e z = absurd (omega (arith, (is x l).1 e))

-- what the planes say of the entries for a right
pub sound_in : (v : View) (es : List Entry) (target n m a right : ℕ) (seeds backed broken keys lefts : List ℕ)
    {r : Bool} → n ≤ m → n ≤ column_bound → a ≤ n → right ≡ right_at n a → LeftsWithin n target es
    → PlaneFrom m a seeds broken → LeftsClosed es target row m keys → LeftsClosed es target right m lefts
    → (r ≡ true) ↔ Each (SoundBy backed broken keys lefts m target right) es
    → v.members ≡ n → Equivalence v → SeedsBelow v m seeds → BackedPlane v backed
    → (r ≡ true) ↔ SoundIn v es target (right_at n a)
sound_in v es target n m a right seeds backed broken keys lefts {r} nm few an er narrow fill key left is en eq sown
    there =
    subst (λ (b : ℕ). (r ≡ true) ↔ SoundIn v es target b) er (
      λ t e i for.
          let w = words.0 (is.0 t) e i for in
          ((there e.left (below e i for)).0 w.0, (holds e i for).0 w.1, w.2, w.3),
      λ h. is.1 (words.1 (λ e i for.
          let w = h e i for in
          ((there e.left (below e i for)).1 w.0, (holds e i for).1 w.1, w.2, w.3))),
    )
  where
    plane : Plane v a broken
    plane = seeds_filled_plane v m a seeds broken eq (omega arith) (omega arith) (omega arith) sown fill

    words : Each (SoundBy backed broken keys lefts m target right) es
        ↔ ((e : Entry) → Memᴰ e es → EntryFor target right e → (plane_bit backed e.left ≡ 1)
        × (plane_bit broken e.left ≡ 0) × NoOther es e × NoKey es e)
    words =
        sound_for_is es target right m backed broken keys lefts key left
        (lefts_narrow n m target right es nm narrow)

    below : (e : Entry) → Memᴰ e es → EntryFor target right e → e.left < 2 ^ v.members
    below e i for = subst (λ (k : ℕ). e.left < 2 ^ k) (sym en) (narrow e i for.0)

    holds : (e : Entry) → Memᴰ e es → EntryFor target right e
        → (plane_bit broken e.left ≡ 0) ↔ Holds v e.left right
    holds e i for =
        let b : right_at v.members a ≡ right = ap (λ (k : ℕ). right_at k a) en ∙ sym er in
        subst (λ (c : ℕ). (plane_bit broken e.left ≡ 0) ↔ Holds v e.left c) b
        (unbroken_is v a broken e.left plane (below e i for))

-- in a catalogue: where the target allows the sides of its entries, they are sound exactly if they are for each right
module _ (cat : List ℕ) (target : ℕ) (es : List Entry) where
  pub not_fitting : (n low : ℕ) → n ≡ visible cat target → low ≡ inherited cat target
      → (Each (FitsFor n low target) es → ⊥) → SoundFor cat target es → ⊥
  not_fitting n low en el unfit sound =
      unfit (λ e i is.
      let w = (sides_own cat e.target e.left e.right).0 (sound e i is).allowed in
      fits_at e is (w.1, w.2))
    where
      fits_at : (e : Entry) → e.target ≡ target
          → SidesFit (visible cat e.target) (inherited cat e.target) e.left e.right
          → SidesFit n low e.left e.right
      fits_at e is w =
          subst (λ (k : ℕ). SidesFit k low e.left e.right) (ap (visible cat) is ∙ sym en)
          (subst (λ (k : ℕ). SidesFit (visible cat e.target) k e.left e.right)
          (ap (inherited cat) is ∙ sym el) w)

  pub fitting : (n low : ℕ) → n ≡ visible cat target → low ≡ inherited cat target → target < tables cat
      → n ≤ column_bound → low ≤ n → Each (FitsFor n low target) es
      → ((a : ℕ) → a < n + 1 → low ≤ a → SoundIn (view cat target) es target (right_at n a)) ↔ SoundFor cat target es
  fitting n low en el known few ln fits = (
    λ sound e i is. made e i is (right_of e (fits e i is).1) sound,
    λ sound a l u e i for.
        let s = sound e i for.0 in
        let there = subst (λ (t : ℕ). Backed (view cat t) e.left) for.0 s.backed in
        (there, held e for.0 for.1 s.holds, s.alone, s.keyless),
  )
    where
      held : (e : Entry) → e.target ≡ target → {b : ℕ} → e.right ≡ b
          → Holds (view cat e.target) e.left e.right → Holds (view cat target) e.left b
      held e is {b} q h =
          subst (λ (c : ℕ). Holds (view cat target) e.left c) q
          (subst (λ (t : ℕ). Holds (view cat t) e.left e.right) is h)

      right_of : (e : Entry) → (e.right ≡ row) ⊎ ((low ≤ e.right) × (e.right < n))
          → (a : ℕ) × (a < n + 1) × (low ≤ a) × (e.right ≡ right_at n a)
      right_of e (inl q) = (n, omega arith, ln, q ∙ sym (right_at_row n))
      right_of e (inr w) = (e.right, omega (arith, w.1), w.0, sym (right_at_column n e.right w.1))

      made : (e : Entry) → Memᴰ e es → e.target ≡ target
          → (a : ℕ) × (a < n + 1) × (low ≤ a) × (e.right ≡ right_at n a)
          → ((a : ℕ) → a < n + 1 → low ≤ a → SoundIn (view cat target) es target (right_at n a)) → SoundEntry cat es e
      made e i is w sound =
          let s = sound w.0 w.1 w.2 e i (is, w.3) in
          let f = fits e i is in
          record {
            allowed = (sides_own cat e.target e.left e.right).1
                (subst (λ (t : ℕ). t < tables cat) (sym is) known, wide_left e is f.0, wide_right e is f.1);
            backed = subst (λ (t : ℕ). Backed (view cat t) e.left) (sym is) s.0;
            holds = subst (λ (t : ℕ). Holds (view cat t) e.left e.right) (sym is)
                (subst (λ (c : ℕ). Holds (view cat target) e.left c) (sym w.3) s.1);
            alone = s.2;
            keyless = s.3;
          }
        where
          wide_left : (e : Entry) → e.target ≡ target → e.left < 2 ^ n → e.left < 2 ^ visible cat e.target
          wide_left e is l = subst (λ (k : ℕ). e.left < 2 ^ k) (en ∙ sym (ap (visible cat) is)) l

          wide_right : (e : Entry) → e.target ≡ target → (e.right ≡ row) ⊎ ((low ≤ e.right) × (e.right < n))
              → (e.right ≡ row) ⊎ ((inherited cat e.target ≤ e.right) × (e.right < visible cat e.target))
          wide_right e is (inl q) = inl q
          wide_right e is (inr v) =
              inr (omega (arith, el, ap (inherited cat) is, v.0), omega (arith, en, ap (visible cat) is, v.1))

-- the entries for the right of bit a are sound, in every view that the seeds and the backed lefts are of
abbrev pub SoundAt : List Entry → ℕ → ℕ → ℕ → List ℕ → List ℕ → ℕ → Type 0
SoundAt es target n m seeds backed a =
    (v : View) → v.members ≡ n → Equivalence v → SeedsBelow v m seeds → BackedPlane v backed
    → SoundIn v es target (right_at n a)

-- entries that fit have narrow lefts
pub fits_narrow : {n low target : ℕ} {es : List Entry} → Each (FitsFor n low target) es → LeftsWithin n target es
fits_narrow fits e i is = (fits e i is).0
