-- What is accepted is the full listing, and the full listing is accepted: for a list without a ground under 15 and true
-- records, all entries are sound and all backed sets covered exactly if the list is the full listing and each backed
-- failing set has a record above it.
use Prim.Native.Nat.{ℕ, ◌^◌, ◌<◌}
use mathlib.Core.Path.{◌≡◌, sym, ap, subst, ◌∙◌}
use mathlib.Core.Logic.{◌⊎◌, inl, inr, ⊎_elim, ◌↔◌}
use mathlib.Core.List.{List, Memᴰ}
use native.Mathlib.Decide.{ℕ_discrete}
use lib.Dec.{T}
use Rattle.columns.specs.Set.{without_of}
use Rattle.columns.proofs.Bits.{without_below}
use Rattle.model.specs.Bounds.{row}
use Rattle.model.specs.Catalogue.{tables, visible}
use Rattle.model.specs.Calls.{flat}
use Rattle.model.specs.Check.{Accepted, check_code}
use Rattle.model.specs.View.{In, Holds, Key, Minimal, holds}
use Rattle.model.specs.Target.{view}
use Rattle.model.specs.Question.{sides_code}
use Rattle.model.specs.Entry.{entry}
use Rattle.model.specs.Entries.{entries_code}
use Rattle.model.specs.Listing.{ordinary, rights_of, cells, Stands}
use Rattle.model.specs.Reading.{entries_held, read_code}
use Rattle.model.specs.Evidence.{TrueRecord, records_held}
use Rattle.model.specs.Contains.{Inside, EntryFor, ContainsListed, ContainsKey}
use Rattle.model.specs.Verify.{InsideRecord, Covered, SoundEntry, TrueRecords, SoundEntries}
use Rattle.model.specs.Verify.{CoveredSets}
use Rattle.model.specs.declared.Entry.{Entry}
use Rattle.model.specs.declared.Evidence.{Evidence}
use Rattle.model.proofs.Truth.{decided}
use Rattle.model.proofs.Grounds.{or_else_right}
use Rattle.model.proofs.View.{holds_is, more_holds, without_lacks}
use Rattle.model.proofs.Backed.{backed_without}
use Rattle.model.proofs.Minimal.{without_inside, minimal_only, key_gives}
use Rattle.model.proofs.Contains.{row_outside, ordinary_nothing_lost}
use Rattle.model.proofs.Check.{accepted_visible}
use Rattle.model.proofs.Target.{view_equivalence}
use Rattle.model.proofs.Rights.{ordinary_bounded, ordinary_row}
use Rattle.model.proofs.Earlier.{ordered_same}
use Rattle.model.proofs.Listing.{stands_is, full_ordered}
use Rattle.evidence.proofs.Sides.{sides_is}
use Rattle.acceptance.specs.Acceptance.{FailuresRecorded, FullWithEvidence}
use Rattle.acceptance.proofs.Entries.{entries_ordered, entries_each, right_outside}

-- entries are equal part by part
entry_same : (e f : Entry) → e.target ≡ f.target → e.left ≡ f.left → e.right ≡ f.right → e ≡ f
entry_same e f p q r =
    ap (λ (t : ℕ). entry t e.left e.right) p ∙ ap (λ (x : ℕ). entry f.target x e.right) q
    ∙ ap (λ (a : ℕ). entry f.target f.left a) r

module _ (cat : List ℕ) where
  -- a dependency that holds, for an equal target and right
  holds_for : (x : ℕ) {s t a b : ℕ} → (s ≡ t) × (a ≡ b) → Holds (view cat s) x a → Holds (view cat t) x b
  holds_for x {s} {t} {a} {b} q h =
      subst (λ (c : ℕ). Holds (view cat t) x c) q.1 (subst (λ (u : ℕ). Holds (view cat u) x a) q.0 h)

  -- 8 to 10 allow an entry that stands
  stands_allowed : (e : Entry) → Stands (ordinary cat) e → sides_code cat e.target e.left e.right ≡ 0
  stands_allowed e s = (sides_is cat e.target e.left e.right).1 (s.target, s.left, s.right)

  -- a left that holds and lies inside the left of an entry that stands, for its target and right, is that left
  stands_only : (e f : Entry) → Stands (ordinary cat) e → EntryFor e.target e.right f
      → sides_code cat f.target f.left f.right ≡ 0
      → Holds (view cat f.target) f.left f.right
      → Inside f.left e.left
      → f.left ≡ e.left
  stands_only e f s q a h w =
      minimal_only (view cat e.target) e.right e.left f.left s.left
      (subst (λ (t : ℕ). f.left < 2 ^ visible cat t) q.0 ((sides_is cat f.target f.left f.right).0 a).1)
      s.listed.minimal w (holds_for f.left q h)

  -- a set that contains a left of a list whose entries hold gives its right
  contains_holds : (es : List Entry)
      → ((f : Entry) → Memᴰ f es → Holds (view cat f.target) f.left f.right) → (target a x : ℕ)
      → ContainsListed es target a x → Holds (view cat target) x a
  contains_holds es each target a x (f, m, q, w) =
      more_holds (view cat target) f.left x a (λ k l i. w k i) (holds_for f.left q (each f m))

  -- a list that is the full listing
  module _ (es : List Entry) (full : es ≡ flat (cells (ordinary cat))) where
    stands : (e : Entry) → Memᴰ e es → Stands (ordinary cat) e
    stands e m = (stands_is (ordinary cat) e).0 (subst (λ (fs : List Entry). Memᴰ e fs) full m)

    -- its entries are sound: they are backed, a minimal left contains no other, and that of a column is no key, so it
    -- contains none
    pub full_sound : SoundEntries cat es
    full_sound e m =
        let s = stands e m in
        record {
          allowed = stands_allowed e s;
          backed = s.listed.backed;
          holds = s.listed.minimal.holds;
          alone = λ f n q other w.
              let t = stands f n in
              other (stands_only e f s q (stands_allowed f t) t.listed.minimal.holds w);
          keyless = λ column c.
              ⊎_elim column
              (λ (n : Key (view cat e.target) e.left → ⊥).
              n (contains_holds es (λ f i. (stands f i).listed.minimal.holds) e.target row e.left c))
              s.listed.undropped;
        }

    -- each backed set is covered: one that holds contains a listed left or a listed key, for nothing is lost, and one
    -- that fails has a record above it
    pub full_covers : Accepted cat → (rs : List Evidence) → FailuresRecorded cat rs → CoveredSets cat es rs
    full_covers ok rs failures target x right c = at (decided (holds (view cat target) x right))
      where
        listed : (a : ℕ) → ContainsListed (flat (cells (ordinary cat))) target a x → ContainsListed es target a x
        listed a l = subst (λ (fs : List Entry). ContainsListed fs target a x) (sym full) l

        at : T (holds (view cat target) x right) ⊎ (T (holds (view cat target) x right) → ⊥)
            → Covered es rs target right x
        at (inl t) =
            let b = (sides_is cat target x right).0 c.allowed in
            ⊎_elim (λ (l : ContainsListed (flat (cells (ordinary cat))) target right x). inl (listed right l))
            (λ (k : ContainsKey (flat (cells (ordinary cat))) target x). inr (inl (listed row k)))
            ((ordinary_nothing_lost cat ok target x right b.0 b.1 b.2 c.outside c.backed).0
            ((holds_is (view cat target) x right).0 t))
        at (inr n) =
            let broken : Holds (view cat target) x right → ⊥ = λ h. n ((holds_is (view cat target) x right).1 h) in
            inr (inr (failures target x right (record { candidate = c; broken = broken })))

  -- inside the set of a true record nothing holds for its target and right: its rows break it
  module _ (rs : List Evidence) (each : (e : Evidence) → Memᴰ e rs → TrueRecord cat e) where
    inside_fails : (target right x : ℕ) → InsideRecord rs target right x → Holds (view cat target) x right → ⊥
    inside_fails target right x (e, m, q, w) h =
        let t = each e m in
        t.disagree (holds_for x (sym q.0, sym q.1) h e.first e.second t.first_exists
        t.second_exists (λ k l i. t.agree k l (w k i)))

    -- a list that is accepted
    module _ (ok : Accepted cat) (es : List Entry) (fine : entries_code es ≡ 0) (sound : SoundEntries cat es)
        (covered : CoveredSets cat es rs) where
      -- a set that contains a listed left gives its right
      given : (target a x : ℕ) → ContainsListed es target a x → Holds (view cat target) x a
      given = contains_holds es (λ f m. (sound f m).holds)

      -- a listed entry stands: with a column less it is still backed, so it would contain another listed left or lie
      -- inside a record's set; and if it is a column's and its left a key, that would contain a listed key
      listed_stands : (e : Entry) → Memᴰ e es → Stands (ordinary cat) e
      listed_stands e m =
          record {
            target = a.0;
            left = a.1;
            right = a.2;
            listed = record {
              backed = s.backed;
              minimal = record { holds = s.holds; outside = o; spare = λ k l i h. spare k i h (cover k) };
              undropped = undropped (ℕ_discrete e.right row);
            };
          }
        where
          s : SoundEntry cat es e
          s = sound e m

          a : (e.target < tables cat) × (e.left < 2 ^ visible cat e.target)
              × Memᴰ e.right (rights_of (ordinary cat) e.target)
          a = (sides_is cat e.target e.left e.right).0 s.allowed

          o : In e.right e.left → ⊥
          o = right_outside cat ok e (entries_each es fine e m) s.allowed

          cover : (k : ℕ) → Covered es rs e.target e.right (without_of e.left k)
          cover k =
              covered e.target (without_of e.left k) e.right (record {
                allowed = (sides_is cat e.target (without_of e.left k) e.right).1
                    (a.0, without_below (visible cat e.target) e.left k a.1, a.2);
                outside = λ i. o (without_inside e.left k e.right i);
                backed = backed_without (view cat e.target) e.left k s.backed;
              })

          less : (k : ℕ) → In k e.left → ContainsListed es e.target e.right (without_of e.left k) → ⊥
          less k i (f, n, q, w) =
              s.alone f n q (λ p. without_lacks e.left k (w k (subst (λ (y : ℕ). In k y) (sym p) i)))
              (λ j b. without_inside e.left k j (w j b))

          spare : (k : ℕ) → In k e.left → Holds (view cat e.target) (without_of e.left k) e.right
              → Covered es rs e.target e.right (without_of e.left k)
              → ⊥
          spare k i h (inl l) = less k i l
          spare k i h (inr (inl c)) = key (ℕ_discrete e.right row)
            where
              key : Dec (e.right ≡ row) → ⊥
              key (yes p) =
                  less k i (subst (λ (a : ℕ). ContainsListed es e.target a (without_of e.left k)) (sym p) c)
              key (no p) = s.keyless p (c.0, c.1, c.2, λ j b. without_inside e.left k j (c.3 j b))
          spare k i h (inr (inr r)) = inside_fails e.target e.right (without_of e.left k) r h

          -- its left as a candidate for the row
          cover_row : Covered es rs e.target row e.left
          cover_row =
              covered e.target e.left row (record {
                allowed = (sides_is cat e.target e.left row).1 (a.0, a.1, ordinary_row cat e.target a.0);
                outside = row_outside (visible cat e.target) e.left (accepted_visible cat ok e.target a.0)
                    a.1;
                backed = s.backed;
              })

          no_key : (e.right ≡ row → ⊥) → Covered es rs e.target row e.left → Key (view cat e.target) e.left
              → ⊥
          no_key column (inl l) key = s.keyless column l
          no_key column (inr (inl k)) key = s.keyless column k
          no_key column (inr (inr r)) key = inside_fails e.target row e.left r key

          undropped : Dec (e.right ≡ row) → (e.right ≡ row) ⊎ (Key (view cat e.target) e.left → ⊥)
          undropped (yes p) = inl p
          undropped (no p) = inr (no_key p cover_row)

      -- an entry that stands is listed: it is backed, so it is covered; it holds, so no record is above it; it contains
      -- no other left that holds; and if it is a column's, it is no key, so it contains none
      stands_listed : (e : Entry) → Stands (ordinary cat) e → Memᴰ e es
      stands_listed e s =
          at (covered e.target e.left e.right
          (record { allowed = stands_allowed e s; outside = minimal.outside; backed = s.listed.backed }))
        where
          minimal : Minimal (view cat e.target) e.left e.right
          minimal = s.listed.minimal

          found : ContainsListed es e.target e.right e.left → Memᴰ e es
          found (f, m, q, w) =
              let p = stands_only e f s q (sound f m).allowed (sound f m).holds w in
              subst (λ (g : Entry). Memᴰ g es) (entry_same f e q.0 p q.1) m

          at : Covered es rs e.target e.right e.left → Memᴰ e es
          at (inl l) = found l
          at (inr (inl k)) =
              ⊎_elim
              (λ (p : e.right ≡ row).
              found (subst (λ (a : ℕ). ContainsListed es e.target a e.left) (sym p) k))
              (λ (n : Key (view cat e.target) e.left → ⊥). absurd (n (given e.target row e.left k)))
              s.listed.undropped
          at (inr (inr r)) = absurd (inside_fails e.target e.right e.left r minimal.holds)

      -- it is the full listing
      pub accepted_full : es ≡ flat (cells (ordinary cat))
      accepted_full =
          ordered_same es (flat (cells (ordinary cat))) (entries_ordered es fine)
          (full_ordered (ordinary cat) (ordinary_bounded cat ok))
          (λ e m. (stands_is (ordinary cat) e).1 (listed_stands e m))
          (λ e m. stands_listed e ((stands_is (ordinary cat) e).0 m))

      -- and each backed failing set has a record above it: it contains no listed left and no listed key, for that would
      -- give the right
      pub accepted_failures : FailuresRecorded cat rs
      accepted_failures target x right b = at (covered target x right b.candidate)
        where
          at : Covered es rs target right x → InsideRecord rs target right x
          at (inl l) = absurd (b.broken (given target right x l))
          at (inr (inl k)) =
              absurd (b.broken (key_gives (view cat target) (view_equivalence cat target) x right
              (given target row x k)))
          at (inr (inr r)) = r

    -- sound and covered exactly if full, with a record above each backed failing set
    pub sound_covered_is : Accepted cat → (es : List Entry) → entries_code es ≡ 0
        → (SoundEntries cat es × CoveredSets cat es rs) ↔ ((es ≡ flat (cells (ordinary cat))) × FailuresRecorded cat rs)
    sound_covered_is ok es fine = (
      λ h. (accepted_full ok es fine h.0 h.1, accepted_failures ok es fine h.0 h.1),
      λ h. (full_sound es h.0, full_covers es h.0 ok rs h.1),
    )

-- the same of a file and of evidence as bytes
pub accepted_exactly : (cat file bytes : List ℕ)
    → ((check_code cat ≡ 0) × (read_code file ≡ 0) × TrueRecords cat bytes × SoundEntries cat (entries_held file)
    × CoveredSets cat (entries_held file) (records_held bytes)) ↔ FullWithEvidence cat file bytes
unfolding read_code
accepted_exactly cat file bytes = (
  λ h.
      let w =
      (sound_covered_is cat (records_held bytes) h.2.each h.0 (entries_held file)
      (or_else_right _ (entries_code (entries_held file)) h.1)).0 (h.3, h.4) in
      record { catalogue = h.0; list = h.1; full = w.0; records = h.2; failures = w.1 },
  λ h. (
    h.catalogue,
    h.list,
    h.records,
    full_sound cat (entries_held file) h.full,
    full_covers cat (entries_held file) h.full h.catalogue (records_held bytes) h.failures,
  ),
)
