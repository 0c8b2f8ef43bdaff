-- From target to target: what holds of the records, entries and sets of each target holds of all; and the replies.
use Prim.Native.Nat.{ℕ, zero, suc, ◌+◌, ◌-◌, ◌*◌, ◌/◌, ◌%◌, ◌≤◌, ◌<◌}
use mathlib.Core.Path.{◌≡◌, refl, sym, ap, ap₂, subst, ◌∙◌}
use mathlib.Core.Logic.{◌↔◌}
use mathlib.Core.Bool.{Bool}
use mathlib.Core.List.{List, [], ◌∷◌}
use native.Mathlib.Omega.{arith}
use lib.Dec.{T}
use lib.ListN.{length}
use Rattle.columns.specs.Test.{pick}
use Rattle.model.specs.Catalogue.{tables}
use Rattle.model.specs.Check.{check_code}
use Rattle.model.specs.Refusal.{number, last_refusal}
use Rattle.model.specs.Reply.{Reply, refused, answered, reply_of, verify_reply}
use Rattle.std.specs.Prelude.{Result, Ok, Err, IsErrAnd}
use Rattle.model.specs.Entries.{entries_from}
use Rattle.model.specs.Evidence.{evidence_bytes, record_count, records_from, records_held, unbroken, TrueRecord}
use Rattle.model.specs.Reading.{count_in, distance_in, entries_held, read_code, open_meaning}
use Rattle.model.specs.Verify.{TrueRecords, SoundEntries, CoveredSets, are_true_records, are_sound_entries}
use Rattle.model.specs.Verify.{are_covered_sets, records_code, sound_code, cover_code, evidence_code, verify_code}
use Rattle.model.specs.Verify.{verify_meaning}
use Rattle.model.specs.declared.Entry.{Entry}
use Rattle.model.specs.declared.Evidence.{Evidence}
use Rattle.model.specs.declared.Refusal.{Refusal}
use Rattle.model.specs.declared.Verified.{Verified}
use Rattle.model.specs.declared.Refusal.TheVariants.{FileTooShort, FalseRecord, UnsoundEntry, UncoveredSet}
use Rattle.model.proofs.Truth.{is_true, is_false, eqb_is}
use Rattle.model.proofs.Grounds.{or_else_first, or_else_next, reply_refused, reply_answered}
use Rattle.grounds.proofs.Sound.{check_code_le}
use Rattle.entries.proofs.Entries.{length_from}
use Rattle.evidence.specs.Lists.{Each}
use Rattle.evidence.proofs.Sides.{sides_own}
use Rattle.evidence.proofs.Tests.{true_records_is, sound_entries_is, covered_sets_is}
use Rattle.packed.proofs.Opening.{Opened, refused_by}
use Rattle.records.specs.True.{AllTrue}
use Rattle.soundness.specs.Sound.{SoundFor}
use Rattle.coverage.specs.Covered.{TargetCovered}
use Rattle.verify.specs.Judged.{judged_meaning}

-- how many records are read
length_records_from : (bytes : List ℕ) (n i : ℕ) → length (records_from bytes n i) ≡ n
unfolding records_from
length_records_from bytes zero i = refl
length_records_from bytes (suc n) i = omega (arith, length_records_from bytes n (i + evidence_bytes))

-- as many as are whole, where they are those that are held
pub count_is : (read bytes : List ℕ) (count : ℕ) → records_from read count 0 ≡ records_held bytes
    → count ≡ record_count bytes
unfolding records_held
count_is read bytes count e =
    sym (length_records_from read count 0) ∙ ap length e ∙ length_records_from bytes (record_count bytes) 0

pub whole_is : (bytes : List ℕ) → T (unbroken bytes) ↔ (length bytes % evidence_bytes ≡ 0)
unfolding unbroken
whole_is bytes = eqb_is (length bytes % evidence_bytes) 0

pub no_broken : {cat : List ℕ} (bytes : List ℕ) → TrueRecords cat bytes → length bytes % evidence_bytes ≡ 0
no_broken bytes h = (whole_is bytes).0 h.whole

-- 17: all records are true exactly if none is broken, each is for a table, and those of each table are true
module _ (cat bytes : List ℕ) {rs : List Evidence} (e : rs ≡ records_held bytes) where
  pub each_true : TrueRecords cat bytes → Each (TrueRecord cat) rs
  each_true h = subst (Each (TrueRecord cat)) (sym e) h.each

  pub for_tables : {end : ℕ} → end ≡ tables cat → TrueRecords cat bytes → Each (λ r. r.target < end) rs
  for_tables t h r m = omega (arith, t, ((sides_own cat r.target r.set r.right).0 (each_true h r m).allowed).0)

  pub all_targets_true : {end : ℕ} → length bytes % evidence_bytes ≡ 0 → Each (λ r. r.target < end) rs
      → ((target : ℕ) → target < end → AllTrue cat target rs) ↔ TrueRecords cat bytes
  all_targets_true whole known = (
    λ each. record {
      whole = (whole_is bytes).1 whole;
      each = subst (Each (TrueRecord cat)) e (λ r m. each r.target (known r m) r m refl);
    },
    λ h target l r m is. each_true h r m,
  )

-- 18: the same of entries
module _ (cat : List ℕ) (es : List Entry) {end : ℕ} (t : end ≡ tables cat) where
  pub entries_known : SoundEntries cat es → Each (λ e. e.target < end) es
  entries_known h e m =
      omega (arith, t, ((sides_own cat e.target e.left e.right).0 (h e m).allowed).0)

  pub all_targets_sound : Each (λ e. e.target < end) es
      → ((target : ℕ) → target < end → SoundFor cat target es) ↔ SoundEntries cat es
  all_targets_sound known = (λ each e m. each e.target (known e m) e m refl, λ h target l e m is. h e m)

  -- 19: and of sets
  pub all_targets_covered : (rs : List Evidence)
      → ((target : ℕ) → target < end → TargetCovered cat es rs target) ↔ CoveredSets cat es rs
  all_targets_covered rs = (
    λ each target x right c.
        each target (omega (arith, t, ((sides_own cat target x right).0 c.allowed).0)) x right c,
    λ h target l. h target,
  )

-- a ground by a test, and the reply where it is the first
failed : {A : Type 0} (t : Bool) (n : ℕ) → T t ↔ A → (A → ⊥) → pick t 0 n ≡ n
failed t n is none = ap (λ (b : Bool). pick b 0 n) (is_false {b = t} (λ h. none (is.0 h)))

passes : {A : Type 0} (t : Bool) (n : ℕ) → T t ↔ A → A → pick t 0 n ≡ 0
passes t n is h = ap (λ (b : Bool). pick b 0 n) (is_true {b = t} (is.1 h))

module _ (cat : List ℕ) (es : List Entry) (bytes : List ℕ) where
  abbrev values : List ℕ
  values = length es ∷ record_count bytes ∷ []

  no_17 : TrueRecords cat bytes → records_code cat bytes ≡ 0
  unfolding records_code
  no_17 = passes (are_true_records cat bytes) (number FalseRecord) (true_records_is cat bytes)

  no_18 : SoundEntries cat es → sound_code cat es ≡ 0
  unfolding sound_code
  no_18 = passes (are_sound_entries cat es) (number UnsoundEntry) (sound_entries_is cat es)

  pub refused_17 : (TrueRecords cat bytes → ⊥) → refused (number FalseRecord) ≡ judged_meaning cat es bytes
  unfolding judged_meaning evidence_code records_code
  refused_17 none =
      let is = failed (are_true_records cat bytes) (number FalseRecord) (true_records_is cat bytes) none in
      reply_refused values (sym is ∙ sym (or_else_first _ (λ z. omega (arith, is, z)))) (omega arith)

  pub refused_18 : TrueRecords cat bytes → (SoundEntries cat es → ⊥)
      → refused (number UnsoundEntry) ≡ judged_meaning cat es bytes
  unfolding judged_meaning evidence_code sound_code
  refused_18 fine none =
      let is = failed (are_sound_entries cat es) (number UnsoundEntry) (sound_entries_is cat es) none in
      reply_refused values
      (sym is ∙ sym (or_else_first _ (λ z. omega (arith, is, z))) ∙ sym (or_else_next _ (no_17 fine))) (omega arith)

  pub refused_19 : TrueRecords cat bytes → SoundEntries cat es → (CoveredSets cat es (records_held bytes) → ⊥)
      → refused (number UncoveredSet) ≡ judged_meaning cat es bytes
  unfolding judged_meaning evidence_code cover_code
  refused_19 fine sound none =
      let is = failed (are_covered_sets cat es (records_held bytes)) (number UncoveredSet)
      (covered_sets_is es (records_held bytes) cat) none in
      reply_refused values (sym is ∙ sym (or_else_next _ (no_18 sound)) ∙ sym (or_else_next _ (no_17 fine)))
      (omega arith)

  pub accepted : TrueRecords cat bytes → SoundEntries cat es → CoveredSets cat es (records_held bytes)
      → answered values ≡ judged_meaning cat es bytes
  unfolding judged_meaning evidence_code cover_code
  accepted fine sound covered =
      reply_answered values
      (or_else_next _ (no_17 fine) ∙ or_else_next _ (no_18 sound)
      ∙ passes (are_covered_sets cat es (records_held bytes)) (number UncoveredSet)
      (covered_sets_is es (records_held bytes) cat) covered)

pub accepted_from : (cat file bytes : List ℕ) (count first records : ℕ) → records ≡ record_count bytes
    → TrueRecords cat bytes → SoundEntries cat (entries_from file count first)
    → CoveredSets cat (entries_from file count first) (records_held bytes)
    → answered (count ∷ records ∷ []) ≡ judged_meaning cat (entries_from file count first) bytes
accepted_from cat file bytes count first records e fine sound covered =
    ap₂ (λ (k n : ℕ). answered (k ∷ n ∷ [])) (sym (length_from file count first)) e
    ∙ accepted cat (entries_from file count first) bytes fine sound covered

-- the entries that are held stand where the trailer says
entries_held_lem : (file : List ℕ)
    → entries_from file (count_in file) (length file - distance_in file) ≡ entries_held file
unfolding entries_held
entries_held_lem file = refl

-- the call: the catalogue's refusal, the list's, or what is judged
module _ (cat file bytes : List ℕ) where
  pub catalogue_refused : {code n : ℕ} → code ≡ check_code cat → (code ≡ 0 → ⊥) → n ≡ code
      → refused n ≡ verify_meaning cat file bytes
  unfolding verify_meaning verify_code
  catalogue_refused {code} {n} e some is =
      reply_refused _ (is ∙ e ∙ sym (or_else_first _ (λ z. some (e ∙ z)))) (λ z. some (sym is ∙ z))

  pub list_refused : {n : ℕ} → check_code cat ≡ 0 → refused n ≡ open_meaning file
      → refused n ≡ verify_meaning cat file bytes
  unfolding verify_meaning verify_code open_meaning
  list_refused {n} ok e =
      let by = refused_by (read_code file) (count_in file ∷ (length file - distance_in file) ∷ []) e in
      reply_refused _ (by.0 ∙ sym (or_else_first _ by.1) ∙ sym (or_else_next _ ok)) (λ z. by.1 (sym by.0 ∙ z))

  pub list_opened : {k first : ℕ} → check_code cat ≡ 0 → Opened file k first
      → judged_meaning cat (entries_from file k first) bytes ≡ verify_meaning cat file bytes
  unfolding verify_meaning verify_code judged_meaning
  list_opened {k} {first} ok o =
      let held = held_by o in
      ap₂ (λ (code m : ℕ). reply_of code (m ∷ record_count bytes ∷ []))
      (ap (λ (es : List Entry). evidence_code cat es bytes) held ∙ sym (or_else_next _ o.sound)
      ∙ sym (or_else_next _ ok))
      (length_from file k first ∙ o.count)
    where
      held_by : Opened file k first → entries_from file k first ≡ entries_held file
      held_by o = ap₂ (entries_from file) o.count o.place ∙ entries_held_lem file

-- what `?` gives back
pub handed_back : (r : Result Verified Refusal) (why : Refusal) {m : Reply} → IsErrAnd r (λ e. e ≡ why)
    → refused (number why) ≡ m → verify_reply r ≡ m
handed_back (Ok v) why h e = absurd h
handed_back (Err y) why h e = ap (λ (w : Refusal). refused (number w)) h ∙ e
