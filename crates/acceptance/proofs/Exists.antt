-- Evidence exists: the records of specs/Exists.antt are those of the backed failing sets, each is true, and for an
-- accepted catalogue they are read back from their bytes, so that each backed failing set has a record above it.
use Prim.Native.Nat.{ℕ, zero, suc, ◌^◌, ◌<◌}
use mathlib.Core.Path.{◌≡◌, refl, sym, ap, subst}
use mathlib.Core.Logic.{⊎_elim, ◌↔◌}
use mathlib.Core.Bool.{Bool, true, false, not, ◌&&◌}
use mathlib.Core.List.{List, [], ◌∷◌, ◌++◌, Memᴰ}
use native.Mathlib.Decide.{ℕ_discrete}
use native.Mathlib.Omega.{arith}
use lib.Dec.{T}
use lib.ListN.{get_or}
use lib.Pow.{pow_mono}
use Rattle.columns.specs.Test.{pick}
use Rattle.model.specs.Bounds.{row}
use Rattle.model.specs.Catalogue.{tables, visible}
use Rattle.model.specs.Check.{Accepted}
use Rattle.model.specs.View.{In, Holds, Backed, is_in, holds, backed}
use Rattle.model.specs.Target.{view}
use Rattle.model.specs.Pair.{FirstPair}
use Rattle.model.specs.Listing.{ordinary, rights_of}
use Rattle.model.specs.Evidence.{TrueRecord, records_held}
use Rattle.model.specs.declared.Evidence.{Evidence}
use Rattle.model.proofs.Truth.{and_is, not_is}
use Rattle.model.proofs.View.{is_in_is, holds_is}
use Rattle.model.proofs.Backed.{backed_is}
use Rattle.model.proofs.Pair.{first_pair_is, first_exists_lem}
use Rattle.model.proofs.Target.{view_equivalence}
use Rattle.model.proofs.Check.{accepted_tables, accepted_visible, accepted_rows}
use Rattle.evidence.specs.Small.{SmallRecord, SmallRecords}
use Rattle.evidence.proofs.Sides.{sides_is, sides_own}
use Rattle.evidence.proofs.Records.{records_back, records_bytes_lem, records_unbroken}
use Rattle.acceptance.specs.Acceptance.{Fails, FailuresRecorded}
use Rattle.acceptance.specs.Exists.{gather_below, gather_in, failing, record_of, records_of_right}
use Rattle.acceptance.specs.Exists.{records_of_target, records_of, evidence_of, EvidenceExists}

-- what stands in the parts gathered
module _ {A : Type 0} (e : A) where
  below_mem : (n : ℕ) (f : ℕ → List A) (k : ℕ) → k < n → Memᴰ e (f k) → Memᴰ e (gather_below n f)
  unfolding gather_below
  below_mem zero f k l m = absurd (omega arith)
  below_mem (suc n) f k l m = at (below_mem n f k) (ℕ_discrete k n)
    where
      at : (k < n → Memᴰ e (f k) → Memᴰ e (gather_below n f)) → Dec (k ≡ n)
          → Memᴰ e (gather_below n f ++ f n)
      at ih (yes q) = mathlib.Core.List.Memᴰ.append_right (gather_below n f) (subst (λ (i : ℕ). Memᴰ e (f i)) q m)
      at ih (no q) = mathlib.Core.List.Memᴰ.append_left (f n) (ih (omega arith) m)

  mem_below : (n : ℕ) (f : ℕ → List A) → Memᴰ e (gather_below n f) → (k : ℕ) × (k < n) × Memᴰ e (f k)
  unfolding gather_below
  mem_below zero f m = absurd (mathlib.Core.List.Memᴰ.not-nil m)
  mem_below (suc n) f m =
      ⊎_elim
      (λ (i : Memᴰ e (gather_below n f)).
      let w = mem_below n f i in
      let l = w.1 in
      (w.0, omega arith, w.2))
      (λ (i : Memᴰ e (f n)). (n, omega arith, i)) (mathlib.Core.List.Memᴰ.append_cases (gather_below n f) m)

  module _ {B : Type 0} (f : B → List A) where
    in_mem : (xs : List B) (x : B) → Memᴰ x xs → Memᴰ e (f x) → Memᴰ e (gather_in xs f)
    unfolding gather_in
    in_mem [] x i m = absurd (mathlib.Core.List.Memᴰ.not-nil i)
    in_mem (y ∷ ys) x i m =
        ⊎_elim (λ (q : x ≡ y). mathlib.Core.List.Memᴰ.append_left (gather_in ys f)
        (subst (λ (z : B). Memᴰ e (f z)) q m))
        (λ (r : Memᴰ x ys). mathlib.Core.List.Memᴰ.append_right (f y) (in_mem ys x r m))
        (mathlib.Core.List.Memᴰ.cases_cons i)

    mem_in : (xs : List B) → Memᴰ e (gather_in xs f) → (x : B) × Memᴰ x xs × Memᴰ e (f x)
    unfolding gather_in
    mem_in [] m = absurd (mathlib.Core.List.Memᴰ.not-nil m)
    mem_in (y ∷ ys) m =
        ⊎_elim (λ (i : Memᴰ e (f y)). (y, mathlib.Core.List.Memᴰ.head refl, i))
        (λ (i : Memᴰ e (gather_in ys f)). let w = mem_in ys i in (w.0, mathlib.Core.List.Memᴰ.tail w.1, w.2))
        (mathlib.Core.List.Memᴰ.append_cases (f y) m)

  -- one element or none
  one_is : (b : Bool) (r : A) → Memᴰ e (pick b (r ∷ []) []) ↔ (T b × (e ≡ r))
  one_is true r = (
    λ m. (
      tt,
      ⊎_elim (λ (q : e ≡ r). q) (λ n. absurd (mathlib.Core.List.Memᴰ.not-nil n))
          (mathlib.Core.List.Memᴰ.cases_cons m),
    ),
    λ w. mathlib.Core.List.Memᴰ.head w.1,
  )
  one_is false r = (λ m. absurd (mathlib.Core.List.Memᴰ.not-nil m), λ w. absurd w.0)

module _ (cat : List ℕ) where
  -- a set is without the right, backed, and fails
  failing_is : (target x right : ℕ)
      → T (failing cat target x right)
      ↔ ((In right x → ⊥) × Backed (view cat target) x × (Holds (view cat target) x right → ⊥))
  unfolding failing
  failing_is target x right = (
    λ t.
        let a = (and_is out (witnessed && fails)).0 t in
        let b = (and_is witnessed fails).0 a.1 in (
          λ i. (not_is (is_in right x)).0 a.0 ((is_in_is right x).1 i),
          (backed_is (view cat target) x).0 b.0,
          λ h. (not_is (holds (view cat target) x right)).0 b.1 ((holds_is (view cat target) x right).1 h),
        ),
    λ w.
        (and_is out (witnessed && fails)).1 (
          (not_is (is_in right x)).1 (λ t. w.0 ((is_in_is right x).0 t)),
          (and_is witnessed fails).1 (
            (backed_is (view cat target) x).1 w.1,
            (not_is (holds (view cat target) x right)).1 (λ t. w.2 ((holds_is (view cat target) x right).0 t)),
          ),
        ),
  )
    where
      out : Bool
      out = not (is_in right x)

      witnessed : Bool
      witnessed = backed (view cat target) x

      fails : Bool
      fails = not (holds (view cat target) x right)

  -- the records are those of the backed failing sets
  pub records_is : (e : Evidence) → Memᴰ e (records_of cat)
      ↔ ((target : ℕ) × (x : ℕ) × (right : ℕ) × Fails cat target x right × (e ≡ record_of cat target x right))
  unfolding records_of records_of_target records_of_right
  records_is e = (
    λ m.
        let a = mem_below e (tables cat) (records_of_target cat) m in
        let b = mem_in e (records_of_right cat a.0) (rights_of (ordinary cat) a.0) a.2 in
        let c = mem_below e (2 ^ visible cat a.0) (one a.0 b.0) b.2 in
        let d = (one_is e (failing cat a.0 c.0 b.0) (record_of cat a.0 c.0 b.0)).0 c.2 in
        let f = (failing_is a.0 c.0 b.0).0 d.0 in (
          a.0,
          c.0,
          b.0,
          record {
            candidate = record {
              allowed = (sides_is cat a.0 c.0 b.0).1 (a.1, c.1, b.1);
              outside = f.0;
              backed = f.1;
            };
            broken = f.2;
          },
          d.1,
        ),
    λ w.
        let target = w.0 in
        let x = w.1 in
        let right = w.2 in
        let s = (sides_is cat target x right).0 w.3.candidate.allowed in
        below_mem e (tables cat) (records_of_target cat) target s.0
        (in_mem e (records_of_right cat target) (rights_of (ordinary cat) target) right s.2
        (below_mem e (2 ^ visible cat target) (one target right) x s.1
        ((one_is e (failing cat target x right) (record_of cat target x right)).1
        ((failing_is target x right).1 (w.3.candidate.outside, w.3.candidate.backed, w.3.broken), w.4)))),
  )
    where
      one : ℕ → ℕ → ℕ → List Evidence
      one target right x = pick (failing cat target x right) (record_of cat target x right ∷ []) []

  -- each is true
  record_true : (target x right : ℕ) → Fails cat target x right → TrueRecord cat (record_of cat target x right)
  unfolding record_of
  record_true target x right f =
      let w = (first_exists_lem (view cat target) x right (view_equivalence cat target)).1 f.broken in
      subst (TrueRecord cat) (sym (ap paired ((first_pair_is (view cat target) x right w.0 w.1).1 w.2)))
      (of w.0 w.1 w.2)
    where
      paired : List ℕ → Evidence
      paired pair =
          record { target = target; right = right; set = x; first = get_or pair 0 0; second = get_or pair 1 0 }

      of : (p q : ℕ) → FirstPair (view cat target) x right p q → TrueRecord cat (paired (p ∷ q ∷ []))
      of p q b =
          let l = b.breaking.lower in
          let h = b.breaking.exists in
          record {
            allowed = f.candidate.allowed;
            first_exists = omega arith;
            second_exists = h;
            outside = f.candidate.outside;
            agree = b.breaking.left;
            disagree = b.breaking.right;
          }

  pub records_true : (e : Evidence) → Memᴰ e (records_of cat) → TrueRecord cat e
  records_true e m =
      let w = (records_is e).0 m in
      subst (TrueRecord cat) (sym w.4) (record_true w.0 w.1 w.2 w.3)

  -- a true record of an accepted catalogue fits into its bytes
  module _ (ok : Accepted cat) where
    pub true_small : (e : Evidence) → TrueRecord cat e → SmallRecord e
    true_small e r =
        let w = (sides_own cat e.target e.set e.right).0 r.allowed in
        let t = w.0 in
        let v = accepted_visible cat ok e.target w.0 in
        let n = accepted_rows cat ok e.target w.0 in
        record {
          target = omega (arith, accepted_tables cat ok);
          right = ⊎_elim (λ (q : e.right ≡ row). omega arith) (λ o. let l = o.1 in omega arith) w.2;
          set = let s = w.1 in omega (arith, pow_mono v);
          first = omega (arith, r.first_exists);
          second = omega (arith, r.second_exists);
        }

    small : SmallRecords (records_of cat)
    small e m = true_small e (records_true e m)

    pub evidence_held : records_held (evidence_of cat) ≡ records_of cat
    unfolding evidence_of
    evidence_held = records_back (records_of cat) small

    -- so there is evidence for an accepted catalogue
    failures_recorded : FailuresRecorded cat (records_held (evidence_of cat))
    unfolding record_of
    failures_recorded target x right f = (
      record_of cat target x right,
      subst (λ (rs : List Evidence). Memᴰ (record_of cat target x right) rs) (sym evidence_held)
          ((records_is (record_of cat target x right)).1
          (target, x, right, f, refl)),
      (refl, refl),
      λ k i. i,
    )

    pub evidence_exists : EvidenceExists cat
    unfolding evidence_of
    evidence_exists =
        record {
          bytes = records_bytes_lem (records_of cat) small;
          records = record {
            whole = records_unbroken (records_of cat);
            each = λ e m. records_true e (subst (λ (rs : List Evidence). Memᴰ e rs) evidence_held m);
          };
          failures = failures_recorded;
        }
