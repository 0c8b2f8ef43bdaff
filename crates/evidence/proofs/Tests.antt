-- Each test of specs/Evidence.antt and specs/Verify.antt of `model` says what stands beside it in words, and one that
-- fails has a record, an entry or a set for which it does.
use Prim.Native.Nat.{ℕ, ◌^◌}
use mathlib.Core.Path.{◌≡◌}
use mathlib.Core.Logic.{◌⊎◌, inl, inr, ⊎_elim, ◌↔◌}
use mathlib.Core.Bool.{Bool, not, ◌&&◌, ◌||◌}
use mathlib.Core.List.{List, Memᴰ}
use lib.Dec.{T, eqb, ltb, ltb→lt, lt→ltb}
use Rattle.columns.specs.Set.{within_of}
use Rattle.columns.proofs.Bits.{within_members, members_within}
use Rattle.model.specs.Bounds.{row}
use Rattle.model.specs.Catalogue.{tables, visible, rows}
use Rattle.model.specs.View.{In, Backed, is_in, agree_on, agree_right, holds, backed, all_below}
use Rattle.model.specs.Target.{view}
use Rattle.model.specs.Question.{sides_code}
use Rattle.model.specs.Listing.{ordinary, rights_of}
use Rattle.model.specs.Evidence.{TrueRecord, is_true_record, all_in, some_in, records_held, unbroken}
use Rattle.model.specs.Contains.{Inside, EntryFor, ContainsListed}
use Rattle.model.specs.Verify.{NoKey, SoundEntry, Candidate, InsideRecord, Covered}
use Rattle.model.specs.Verify.{TrueRecords, SoundEntries, CoveredSets, is_for, contains_listed, is_sound_entry}
use Rattle.model.specs.Verify.{is_covered}
use Rattle.model.specs.Verify.{are_true_records, are_sound_entries, are_covered_sets}
use Rattle.model.specs.declared.Entry.{Entry}
use Rattle.model.specs.declared.Evidence.{Evidence}
use Rattle.model.proofs.Truth.{is_true, true_is, decided, and_is, or_is, not_is, implies_is, eqb_is}
use Rattle.model.proofs.Truth.{all_below_is, one_fails}
use Rattle.model.proofs.View.{is_in_is, agree_on_is, holds_is}
use Rattle.model.proofs.Backed.{backed_is}
use Rattle.evidence.proofs.Every.{all_in_is, some_in_is, one_fails_in}
use Rattle.evidence.proofs.Sides.{sides_is}

-- a record is true
pub true_record_is : (cat : List ℕ) (e : Evidence) → T (is_true_record cat e) ↔ TrueRecord cat e
unfolding is_true_record
true_record_is cat e = (
  λ t.
      let a = (and_is allowed (one && (two && (out && (left && right))))).0 t in
      let b = (and_is one (two && (out && (left && right)))).0 a.1 in
      let c = (and_is two (out && (left && right))).0 b.1 in
      let d = (and_is out (left && right)).0 c.1 in
      let f = (and_is left right).0 d.1 in
      record {
        allowed = (eqb_is (sides_code cat e.target e.set e.right) 0).0 a.0;
        first_exists = ltb→lt e.first (rows cat e.target) b.0;
        second_exists = ltb→lt e.second (rows cat e.target) c.0;
        outside = λ i. (not_is (is_in e.right e.set)).0 d.0 ((is_in_is e.right e.set).1 i);
        agree = (agree_on_is (view cat e.target) e.set e.first e.second).0 f.0;
        disagree = (not_is (agree_right (view cat e.target) e.right e.first e.second)).0 f.1;
      },
  λ r.
      (and_is allowed (one && (two && (out && (left && right))))).1 (
        (eqb_is (sides_code cat e.target e.set e.right) 0).1 r.allowed,
        (and_is one (two && (out && (left && right)))).1 (
          lt→ltb e.first (rows cat e.target) r.first_exists,
          (and_is two (out && (left && right))).1 (
            lt→ltb e.second (rows cat e.target) r.second_exists,
            (and_is out (left && right)).1 (
              (not_is (is_in e.right e.set)).1 (λ t. r.outside ((is_in_is e.right e.set).0 t)),
              (and_is left right).1 (
                (agree_on_is (view cat e.target) e.set e.first e.second).1 r.agree,
                (not_is (agree_right (view cat e.target) e.right e.first e.second)).1 r.disagree,
              ),
            ),
          ),
        ),
      ),
)
  where
    allowed : Bool
    allowed = eqb (sides_code cat e.target e.set e.right) 0

    one : Bool
    one = ltb e.first (rows cat e.target)

    two : Bool
    two = ltb e.second (rows cat e.target)

    out : Bool
    out = not (is_in e.right e.set)

    left : Bool
    left = agree_on (view cat e.target) e.set e.first e.second

    right : Bool
    right = not (agree_right (view cat e.target) e.right e.first e.second)

-- all records are true
pub true_records_is : (cat bytes : List ℕ) → T (are_true_records cat bytes) ↔ TrueRecords cat bytes
unfolding are_true_records
true_records_is cat bytes = (
  λ t.
      let both = (and_is (unbroken bytes) every).0 t in
      record {
        whole = both.0;
        each = λ e m. (true_record_is cat e).0 ((all_in_is (is_true_record cat) (records_held bytes)).0 both.1 e m);
      },
  λ r.
      (and_is (unbroken bytes) every).1 (
        r.whole,
        (all_in_is (is_true_record cat) (records_held bytes)).1 (λ e m. (true_record_is cat e).1 (r.each e m)),
      ),
)
  where
    every : Bool
    every = all_in (is_true_record cat) (records_held bytes)

pub false_record_lem : (cat bytes : List ℕ) → (T (are_true_records cat bytes) → ⊥)
    → (T (unbroken bytes) → ⊥) ⊎ ((e : Evidence) × Memᴰ e (records_held bytes) × (TrueRecord cat e → ⊥))
unfolding are_true_records
false_record_lem cat bytes n = at (decided (unbroken bytes))
  where
    at : T (unbroken bytes) ⊎ (T (unbroken bytes) → ⊥)
        → (T (unbroken bytes) → ⊥) ⊎ ((e : Evidence) × Memᴰ e (records_held bytes) × (TrueRecord cat e → ⊥))
    at (inr broken) = inl broken
    at (inl whole) =
        let w = one_fails_in (is_true_record cat) (records_held bytes)
        (λ t. n ((and_is (unbroken bytes) (all_in (is_true_record cat) (records_held bytes))).1 (whole, t))) in
        inr (w.0, w.1, λ r. w.2 ((true_record_is cat w.0).1 r))

-- for a target and a right; inside
pub for_is : (target right t a : ℕ) → T (is_for target right t a) ↔ ((t ≡ target) × (a ≡ right))
unfolding is_for
for_is target right t a = (
  λ h.
      let both = (and_is (eqb t target) (eqb a right)).0 h in
      ((eqb_is t target).0 both.0, (eqb_is a right).0 both.1),
  λ w. (and_is (eqb t target) (eqb a right)).1 ((eqb_is t target).1 w.0, (eqb_is a right).1 w.1),
)

pub inside_is : (x y : ℕ) → T (within_of x y) ↔ Inside x y
inside_is x y = (λ t. within_members x y (is_true t), λ h. true_is (members_within x y h))

-- a set contains a left that is listed for the two
module _ (es : List Entry) (target right x : ℕ) where
  abbrev below : Entry → Bool
  below f = is_for target right f.target f.right && within_of f.left x

  pub contains_is : T (contains_listed es target right x) ↔ ContainsListed es target right x
  unfolding contains_listed
  contains_is = (
    λ t.
        let w = (some_in_is below es).0 t in
        let f = w.0 in
        let both = (and_is (is_for target right f.target f.right) (within_of f.left x)).0 w.2 in
        (f, w.1, (for_is target right f.target f.right).0 both.0, (inside_is f.left x).0 both.1),
    λ w.
        let f = w.0 in
        (some_in_is below es).1 (
          f,
          w.1,
          (and_is (is_for target right f.target f.right) (within_of f.left x)).1
              ((for_is target right f.target f.right).1 w.2, (inside_is f.left x).1 w.3),
        ),
  )

-- an entry is sound
module _ (cat : List ℕ) (es : List Entry) (e : Entry) where
  -- another entry for its target and right, whose left it contains
  abbrev another : Entry → Bool
  another f =
      is_for e.target e.right f.target f.right
      && (not (eqb f.left e.left) && within_of f.left e.left)

  another_is : (f : Entry)
      → T (another f) ↔ (EntryFor e.target e.right f × (f.left ≡ e.left → ⊥) × Inside f.left e.left)
  another_is f = (
    λ t.
        let a = (and_is for (other && within)).0 t in
        let b = (and_is other within).0 a.1 in (
          (for_is e.target e.right f.target f.right).0 a.0,
          λ q. (not_is (eqb f.left e.left)).0 b.0 ((eqb_is f.left e.left).1 q),
          (inside_is f.left e.left).0 b.1,
        ),
    λ w.
        (and_is for (other && within)).1 (
          (for_is e.target e.right f.target f.right).1 w.0,
          (and_is other within).1 (
            (not_is (eqb f.left e.left)).1 (λ t. w.1 ((eqb_is f.left e.left).0 t)),
            (inside_is f.left e.left).1 w.2,
          ),
        ),
  )
    where
      for : Bool
      for = is_for e.target e.right f.target f.right

      other : Bool
      other = not (eqb f.left e.left)

      within : Bool
      within = within_of f.left e.left

  -- if its right is a column, its left contains no listed key
  keyless_is : T (eqb e.right row || not (contains_listed es e.target row e.left)) ↔ NoKey es e
  keyless_is = (
    λ t column key. elim ((or_is whole (not over)).0 t) [
      | inl r ↦ column ((eqb_is e.right row).0 r)
      | inr n ↦ (not_is over).0 n ((contains_is es e.target row e.left).1 key)
    ],
    λ h. (or_is whole (not over)).1 (at h (decided whole)),
  )
    where
      whole : Bool
      whole = eqb e.right row

      over : Bool
      over = contains_listed es e.target row e.left

      at : NoKey es e → T whole ⊎ (T whole → ⊥) → T whole ⊎ T (not over)
      at h (inl r) = inl r
      at h (inr n) =
          inr ((not_is over).1
          (λ t. h (λ q. n ((eqb_is e.right row).1 q)) ((contains_is es e.target row e.left).0 t)))

  pub sound_entry_is : T (is_sound_entry cat es e) ↔ SoundEntry cat es e
  unfolding is_sound_entry
  sound_entry_is = (
    λ t.
        let a = (and_is allowed (witnessed && (stands && (alone && keyless)))).0 t in
        let w = (and_is witnessed (stands && (alone && keyless))).0 a.1 in
        let b = (and_is stands (alone && keyless)).0 w.1 in
        let d = (and_is alone keyless).0 b.1 in
        record {
          allowed = (eqb_is (sides_code cat e.target e.left e.right) 0).0 a.0;
          backed = (backed_is (view cat e.target) e.left).0 w.0;
          holds = (holds_is (view cat e.target) e.left e.right).0 b.0;
          alone = λ f m for other within.
              (not_is (some_in another es)).0 d.0
              ((some_in_is another es).1 (f, m, (another_is f).1 (for, other, within)));
          keyless = keyless_is.0 d.1;
        },
    λ s.
        (and_is allowed (witnessed && (stands && (alone && keyless)))).1 (
          (eqb_is (sides_code cat e.target e.left e.right) 0).1 s.allowed,
          (and_is witnessed (stands && (alone && keyless))).1 (
            (backed_is (view cat e.target) e.left).1 s.backed,
            (and_is stands (alone && keyless)).1 (
              (holds_is (view cat e.target) e.left e.right).1 s.holds,
              (and_is alone keyless).1 (
                (not_is (some_in another es)).1
                    (λ t.
                    let w = (some_in_is another es).0 t in
                    let v = (another_is w.0).0 w.2 in
                    s.alone w.0 w.1 v.0 v.1 v.2),
                keyless_is.1 s.keyless,
              ),
            ),
          ),
        ),
  )
    where
      allowed : Bool
      allowed = eqb (sides_code cat e.target e.left e.right) 0

      witnessed : Bool
      witnessed = backed (view cat e.target) e.left

      stands : Bool
      stands = holds (view cat e.target) e.left e.right

      alone : Bool
      alone = not (some_in another es)

      keyless : Bool
      keyless = eqb e.right row || not (contains_listed es e.target row e.left)

-- all entries are sound
pub sound_entries_is : (cat : List ℕ) (es : List Entry) → T (are_sound_entries cat es) ↔ SoundEntries cat es
unfolding are_sound_entries
sound_entries_is cat es = (
  λ t e m. (sound_entry_is cat es e).0 ((all_in_is (is_sound_entry cat es) es).0 t e m),
  λ h. (all_in_is (is_sound_entry cat es) es).1 (λ e m. (sound_entry_is cat es e).1 (h e m)),
)

pub unsound_entry_lem : (cat : List ℕ) (es : List Entry) → (T (are_sound_entries cat es) → ⊥)
    → (e : Entry) × Memᴰ e es × (SoundEntry cat es e → ⊥)
unfolding are_sound_entries
unsound_entry_lem cat es n =
    let w = one_fails_in (is_sound_entry cat es) es n in
    (w.0, w.1, λ s. w.2 ((sound_entry_is cat es w.0).1 s))

-- a set is covered
module _ (es : List Entry) (rs : List Evidence) where
  module _ (target right x : ℕ) where
    abbrev above : Evidence → Bool
    above f = is_for target right f.target f.right && within_of x f.set

    inside_record_is : T (some_in above rs) ↔ InsideRecord rs target right x
    inside_record_is = (
      λ t.
          let w = (some_in_is above rs).0 t in
          let f = w.0 in
          let both = (and_is (is_for target right f.target f.right) (within_of x f.set)).0 w.2 in
          (f, w.1, (for_is target right f.target f.right).0 both.0, (inside_is x f.set).0 both.1),
      λ w.
          let f = w.0 in
          (some_in_is above rs).1 (
            f,
            w.1,
            (and_is (is_for target right f.target f.right) (within_of x f.set)).1
                ((for_is target right f.target f.right).1 w.2, (inside_is x f.set).1 w.3),
          ),
    )

    pub covered_is : T (is_covered es rs target right x) ↔ Covered es rs target right x
    unfolding is_covered
    covered_is = (
      λ t. elim ((or_is listed (key || inside)).0 t) [
        | inl b ↦ inl ((contains_is es target right x).0 b)
        | inr o ↦ inr (elim ((or_is key inside).0 o)
            [ inl k ↦ inl ((contains_is es target row x).0 k) | inr a ↦ inr (inside_record_is.0 a) ])
      ],
      λ c. (or_is listed (key || inside)).1 (elim c [
        | inl b ↦ inl ((contains_is es target right x).1 b)
        | inr (inl k) ↦ inr ((or_is key inside).1 (inl ((contains_is es target row x).1 k)))
        | inr (inr a) ↦ inr ((or_is key inside).1 (inr (inside_record_is.1 a)))
      ]),
    )
      where
        listed : Bool
        listed = contains_listed es target right x

        key : Bool
        key = contains_listed es target row x

        inside : Bool
        inside = some_in above rs

  -- each backed set without the right is
  module _ (cat : List ℕ) where
    abbrev set_test : ℕ → ℕ → ℕ → Bool
    set_test target right x = is_in right x || (not (backed (view cat target) x) || is_covered es rs target right x)

    abbrev right_test : ℕ → ℕ → Bool
    right_test target right = all_below (2 ^ visible cat target) (set_test target right)

    abbrev target_test : ℕ → Bool
    target_test target = all_in (right_test target) (rights_of (ordinary cat) target)

    set_is : (target right x : ℕ)
        → T (set_test target right x)
        ↔ ((In right x → ⊥) → Backed (view cat target) x → Covered es rs target right x)
    set_is target right x = (
      λ t out b.
          ⊎_elim (λ (i : T (is_in right x)). absurd (out ((is_in_is right x).0 i)))
          (λ h. (covered_is target right x).0 ((implies_is there covers).0 h ((backed_is (view cat target) x).1 b)))
          ((or_is (is_in right x) (not there || covers)).0 t),
      λ h. (or_is (is_in right x) (not there || covers)).1 (at h (decided (is_in right x))),
    )
      where
        there : Bool
        there = backed (view cat target) x

        covers : Bool
        covers = is_covered es rs target right x

        at : ((In right x → ⊥) → Backed (view cat target) x → Covered es rs target right x)
            → T (is_in right x) ⊎ (T (is_in right x) → ⊥)
            → T (is_in right x) ⊎ T (not there || covers)
        at h (inl i) = inl i
        at h (inr n) =
            inr ((implies_is there covers).1
            (λ t. (covered_is target right x).1
            (h (λ i. n ((is_in_is right x).1 i)) ((backed_is (view cat target) x).0 t))))

    pub covered_sets_is : T (are_covered_sets cat es rs) ↔ CoveredSets cat es rs
    unfolding are_covered_sets
    covered_sets_is = (
      λ t target x right c.
          let w = (sides_is cat target x right).0 c.allowed in
          let all = (all_below_is (tables cat) target_test).0 t target w.0 in
          let one = (all_in_is (right_test target) (rights_of (ordinary cat) target)).0 all right w.2 in
          (set_is target right x).0 ((all_below_is (2 ^ visible cat target) (set_test target right)).0 one x w.1)
          c.outside c.backed,
      λ h.
          (all_below_is (tables cat) target_test).1
          (λ target l. (all_in_is (right_test target) (rights_of (ordinary cat) target)).1
          (λ right m. (all_below_is (2 ^ visible cat target) (set_test target right)).1
          (λ x u. (set_is target right x).1
          (λ out b. h target x right
          (record { allowed = (sides_is cat target x right).1 (l, u, m); outside = out; backed = b }))))),
    )

    pub uncovered_set_lem : (T (are_covered_sets cat es rs) → ⊥)
        → (target : ℕ) × (x : ℕ) × (right : ℕ) × Candidate cat target x right × (Covered es rs target right x → ⊥)
    unfolding are_covered_sets
    uncovered_set_lem n =
        let t = one_fails (tables cat) target_test n in
        let target = t.0 in
        let r = one_fails_in (right_test target) (rights_of (ordinary cat) target) t.2 in
        let right = r.0 in
        let s = one_fails (2 ^ visible cat target) (set_test target right) r.2 in
        let x = s.0 in
        let f = failed target right x s.2 (decided (backed (view cat target) x)) in (
          target,
          x,
          right,
          record {
            allowed = (sides_is cat target x right).1 (t.1, s.1, r.1);
            outside = f.0;
            backed = f.1;
          },
          f.2,
        )
      where
        -- a set that fails the test is without the right, backed, and not covered
        failed : (target right x : ℕ) → (T (set_test target right x) → ⊥)
            → T (backed (view cat target) x) ⊎ (T (backed (view cat target) x) → ⊥)
            → (In right x → ⊥) × Backed (view cat target) x × (Covered es rs target right x → ⊥)
        failed target right x n (inl t) = (
          λ i. n ((set_is target right x).1 (λ out b. absurd (out i))),
          (backed_is (view cat target) x).0 t,
          λ c. n ((set_is target right x).1 (λ out b. c)),
        )
        failed target right x n (inr u) =
            absurd (n ((set_is target right x).1 (λ out b. absurd (u ((backed_is (view cat target) x).1 b)))))
