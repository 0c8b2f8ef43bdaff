-- The refusals of the check by evidence are as specs/Grounds.antt says.
use Prim.Native.Nat.{ℕ, ◌≤◌, ◌<◌}
use mathlib.Core.Path.{◌≡◌, refl, sym, subst, ◌∙◌}
use mathlib.Core.Logic.Iff
use mathlib.Core.Logic.{◌⊎◌, inl, inr, ◌↔◌}
use mathlib.Core.Bool.{Bool, true, false}
use mathlib.Core.List.{List, [], ◌∷◌}
use native.Mathlib.Decide.{ℕ_discrete}
use native.Mathlib.Omega.{arith}
use lib.Dec.{T, eqb, ltb, leb}
use Rattle.columns.specs.Set.{member_of}
use Rattle.columns.specs.Test.{pick, if_eq, if_lt, if_le}
use Rattle.model.specs.Refusal.{number, or_else}
use Rattle.model.specs.Reply.{refused, answered, reply_of}
use Rattle.model.specs.Check.{check_code}
use Rattle.model.specs.Entries.{entry_code, later_code, rest_code, entries_code}
use Rattle.model.specs.Entry.{earlier}
use Rattle.model.specs.Reading.{count_in, entries_held, tail_code, read_code}
use Rattle.model.specs.Evidence.{record_count, records_held}
use Rattle.model.specs.Verify.{are_true_records, are_sound_entries, are_covered_sets}
use Rattle.model.specs.Verify.{records_code, sound_code, cover_code}
use Rattle.model.specs.Verify.{evidence_code, verify_code, verify_meaning, TrueRecords, SoundEntries, CoveredSets}
use Rattle.model.specs.declared.Entry.{Entry}
use Rattle.model.specs.declared.Evidence.{Evidence}
use Rattle.model.specs.declared.Refusal.TheVariants.{BadParentRow, NoList, BadEntry, FalseRecord, UnsoundEntry}
use Rattle.model.specs.declared.Refusal.TheVariants.{UncoveredSet}
use Rattle.model.proofs.Grounds.{or_else_next, or_else_first, reply_refused, reply_answered}
use Rattle.grounds.proofs.Sound.{check_code_le}
use Rattle.evidence.proofs.Tests.{true_records_is, sound_entries_is, covered_sets_is}
use Rattle.evidence.proofs.Tests.{false_record_lem, unsound_entry_lem, uncovered_set_lem}
use Rattle.packed.proofs.Opening.{refused_by, answered_by}
use Rattle.acceptance.specs.Grounds.{HasFalseRecord, HasUnsoundEntry, HasUncoveredSet, VerifyRefusal}
use Rattle.acceptance.specs.Grounds.{VerifyGrounds}

-- what both values of a test are, its value is, and so for the first of two grounds
module _ (P : ℕ → Type 0) where
  pick_has : (t : Bool) {x y : ℕ} → P x → P y → P (pick t x y)
  pick_has true p q = p
  pick_has false p q = q

  if_eq_has : (a b : ℕ) {x y : ℕ} → P x → P y → P (if_eq a b x y)
  unfolding if_eq
  if_eq_has a b p q = pick_has (eqb a b) p q

  if_lt_has : (a b : ℕ) {x y : ℕ} → P x → P y → P (if_lt a b x y)
  unfolding if_lt
  if_lt_has a b p q = pick_has (ltb a b) p q

  if_le_has : (a b : ℕ) {x y : ℕ} → P x → P y → P (if_le a b x y)
  unfolding if_le
  if_le_has a b p q = pick_has (leb a b) p q

  or_else_has : {x y : ℕ} → P x → P y → P (or_else x y)
  unfolding or_else
  or_else_has {x} p q = if_eq_has x 0 q p

-- a code of the list is 0, 14 or 15
abbrev ListCode : ℕ → Type 0
ListCode n = (n ≡ 0) ⊎ ((n ≡ number NoList) ⊎ (n ≡ number BadEntry))

none : ListCode 0
none = inl refl

no_list : ListCode (number NoList)
no_list = inr (inl refl)

bad_entry : ListCode (number BadEntry)
bad_entry = inr (inr refl)

entry_code_one : (e : Entry) → ListCode (entry_code e)
unfolding entry_code
entry_code_one e =
    if_le_has ListCode _ _ bad_entry
    (if_eq_has ListCode _ _ none
    (if_le_has ListCode _ _ bad_entry (pick_has ListCode (member_of e.left e.right) bad_entry none)))

rest_code_one : (e : Entry) (es : List Entry) → ListCode (rest_code e es)
unfolding rest_code later_code
rest_code_one e [] = none
rest_code_one e (f ∷ fs) =
    or_else_has ListCode (entry_code_one f)
    (or_else_has ListCode (pick_has ListCode (earlier e f) none bad_entry) (rest_code_one f fs))

entries_code_one : (es : List Entry) → ListCode (entries_code es)
unfolding entries_code
entries_code_one [] = none
entries_code_one (e ∷ es) = or_else_has ListCode (entry_code_one e) (rest_code_one e es)

read_code_one : (file : List ℕ) → ListCode (read_code file)
unfolding read_code tail_code
read_code_one file =
    or_else_has ListCode
    (if_lt_has ListCode _ _ no_list (if_eq_has ListCode _ _ (if_lt_has ListCode _ _ no_list none) no_list))
    (entries_code_one (entries_held file))

list_code_le : (n : ℕ) → ListCode n → n ≤ number BadEntry
list_code_le n (inl e) = omega arith
list_code_le n (inr (inl e)) = omega arith
list_code_le n (inr (inr e)) = omega arith

-- a reply refuses by a number exactly if that is its code, and answers exactly if its code is 0
refused_is : (code : ℕ) (values : List ℕ) (n : ℕ) → (n ≡ 0 → ⊥) → (reply_of code values ≡ refused n) ↔ (code ≡ n)
refused_is code values n some = (
  λ e. sym (refused_by code values (sym e)).0,
  λ e. sym (reply_refused values (sym e) some),
)

answered_is : (code : ℕ) (values : List ℕ) → (reply_of code values ≡ answered values) ↔ (code ≡ 0)
answered_is code values = (λ e. (answered_by code values (sym e)).0, λ z. sym (reply_answered values z))

-- a code other than the first ground's is that of the second, where the first is none
only_next : (a b n : ℕ) → (a ≡ n → a ≡ 0) → (or_else a b ≡ n) ↔ ((a ≡ 0) × (b ≡ n))
only_next a b n h = (λ e. at e (ℕ_discrete a 0), λ w. or_else_next b w.0 ∙ w.1)
  where
    at : or_else a b ≡ n → Dec (a ≡ 0) → (a ≡ 0) × (b ≡ n)
    at e (yes z) = (z, sym (or_else_next b z) ∙ e)
    at e (no z) = absurd (z (h (sym (or_else_first b z) ∙ e)))

-- a ground by a test: none exactly if the test passes, its own number exactly if it fails, and no other
none_is : (t : Bool) (n : ℕ) → 0 < n → (pick t 0 n ≡ 0) ↔ T t
none_is true n l = (λ e. tt, λ t. refl)
none_is false n l = (λ e. absurd (omega arith), λ t. absurd t)

own_is : (t : Bool) (n : ℕ) → 0 < n → (pick t 0 n ≡ n) ↔ (T t → ⊥)
own_is true n l = (λ e. absurd (omega arith), λ f. absurd (f tt))
own_is false n l = (λ e t. t, λ f. refl)

no_other_lem : (t : Bool) (n m : ℕ) → 0 < m → (n ≡ m → ⊥) → pick t 0 n ≡ m → ⊥
no_other_lem true n m l o e = omega arith
no_other_lem false n m l o e = o e

-- and with another ground behind it
own_first_is : (t : Bool) (n b : ℕ) → 0 < n → (b ≡ n → ⊥) → (or_else (pick t 0 n) b ≡ n) ↔ (T t → ⊥)
own_first_is true n b l o = (λ e. absurd (o (sym (or_else_next b refl) ∙ e)), λ f. absurd (f tt))
own_first_is false n b l o = (λ e t. t, λ f. or_else_first b (omega arith))

next_is : (t : Bool) (n b m : ℕ) → 0 < n → (n ≡ m → ⊥) → (or_else (pick t 0 n) b ≡ m) ↔ (T t × (b ≡ m))
next_is true n b m l o = (λ e. (tt, sym (or_else_next b refl) ∙ e), λ w. or_else_next b refl ∙ w.1)
next_is false n b m l o = (λ e. absurd (o (sym (or_else_first b (omega arith)) ∙ e)), λ w. absurd w.0)

-- behind two codes that end at 15: a number above it, or none
after_both : (c r b n : ℕ) → c ≤ number BadEntry → r ≤ number BadEntry → (n ≡ 0) ⊎ (number BadEntry < n)
    → (or_else c (or_else r b) ≡ n) ↔ ((c ≡ 0) × (r ≡ 0) × (b ≡ n))
after_both c r b n lc lr h = (
  λ e.
      let p = (only_next c (or_else r b) n (low c lc h)).0 e in
      let q = (only_next r b n (low r lr h)).0 p.1 in
      (p.0, q.0, q.1),
  λ w. (only_next c (or_else r b) n (low c lc h)).1 (w.0, (only_next r b n (low r lr h)).1 (w.1, w.2)),
)
  where
    low : (a : ℕ) → a ≤ number BadEntry → (n ≡ 0) ⊎ (number BadEntry < n) → a ≡ n → a ≡ 0
    low a l (inl z) e = e ∙ z
    low a l (inr g) e = absurd (omega arith)

-- three grounds by tests
module _ (s t u : Bool) where
  abbrev last : ℕ
  last = or_else (pick t 0 (number UnsoundEntry)) (pick u 0 (number UncoveredSet))

  abbrev three : ℕ
  three = or_else (pick s 0 (number FalseRecord)) last

  -- 17, 18 and 19, and none
  first_is : (three ≡ number FalseRecord) ↔ (T s → ⊥)
  first_is = own_first_is s (number FalseRecord) last (omega arith) later
    where
      later : last ≡ number FalseRecord → ⊥
      later e =
          no_other_lem u (number UncoveredSet) (number FalseRecord) (omega arith) (omega arith)
          ((next_is t (number UnsoundEntry) (pick u 0 (number UncoveredSet)) (number FalseRecord) (omega arith)
          (omega arith)).0 e).1

  after_first : (n : ℕ) → (number FalseRecord ≡ n → ⊥) → (three ≡ n) ↔ (T s × (last ≡ n))
  after_first n o = next_is s (number FalseRecord) last n (omega arith) o

  after_second : (n : ℕ) → (number UnsoundEntry ≡ n → ⊥) → (last ≡ n) ↔ (T t × (pick u 0 (number UncoveredSet) ≡ n))
  after_second n o = next_is t (number UnsoundEntry) (pick u 0 (number UncoveredSet)) n (omega arith) o

  second_is : (three ≡ number UnsoundEntry) ↔ (T s × (T t → ⊥))
  second_is = (
    λ e. let w = (after_first (number UnsoundEntry) (omega arith)).0 e in (w.0, own.0 w.1),
    λ w. (after_first (number UnsoundEntry) (omega arith)).1 (w.0, own.1 w.1),
  )
    where
      own : (last ≡ number UnsoundEntry) ↔ (T t → ⊥)
      own =
          own_first_is t (number UnsoundEntry) (pick u 0 (number UncoveredSet)) (omega arith)
          (no_other_lem u (number UncoveredSet) (number UnsoundEntry) (omega arith) (omega arith))

  -- the last test, at a number that is neither of the first two
  third_by : (n : ℕ) (A : Type 0) → (number FalseRecord ≡ n → ⊥) → (number UnsoundEntry ≡ n → ⊥)
      → (pick u 0 (number UncoveredSet) ≡ n) ↔ A → (three ≡ n) ↔ (T s × T t × A)
  third_by n A o p i = (
    λ e.
        let w = (after_first n o).0 e in
        let v = (after_second n p).0 w.1 in
        (w.0, v.0, i.0 v.1),
    λ w. (after_first n o).1 (w.0, (after_second n p).1 (w.1, i.1 w.2)),
  )

  third_is : (three ≡ number UncoveredSet) ↔ (T s × T t × (T u → ⊥))
  third_is =
      third_by (number UncoveredSet) (T u → ⊥) (omega arith) (omega arith)
      (own_is u (number UncoveredSet) (omega arith))

  none_of_three : (three ≡ 0) ↔ (T s × T t × T u)
  none_of_three = third_by 0 (T u) (omega arith) (omega arith) (none_is u (number UncoveredSet) (omega arith))

-- the check by evidence
module _ (cat file bytes : List ℕ) where
  abbrev es : List Entry
  es = entries_held file

  abbrev rs : List Evidence
  rs = records_held bytes

  abbrev all_true : Bool
  all_true = are_true_records cat bytes

  abbrev all_sound : Bool
  all_sound = are_sound_entries cat es

  abbrev all_covered : Bool
  all_covered = are_covered_sets cat es rs

  code_is : (n : ℕ) → (n ≡ 0) ⊎ (number BadEntry < n)
      → (verify_code cat file bytes ≡ n)
      ↔ ((check_code cat ≡ 0) × (read_code file ≡ 0) × (three all_true all_sound all_covered ≡ n))
  unfolding verify_code evidence_code records_code sound_code cover_code
  code_is n h =
      after_both (check_code cat) (read_code file) (three all_true all_sound all_covered) n
      (omega (arith, check_code_le cat)) (list_code_le (read_code file) (read_code_one file)) h

  false_is : (T all_true → ⊥) ↔ HasFalseRecord cat bytes
  false_is = (
    λ f. false_record_lem cat bytes f,
    λ h p. at ((true_records_is cat bytes).0 p) h,
  )
    where
      at : TrueRecords cat bytes → HasFalseRecord cat bytes → ⊥
      at p (inl broken) = broken p.whole
      at p (inr (e, m, n)) = n (p.each e m)

  unsound_is : (T all_sound → ⊥) ↔ HasUnsoundEntry cat es
  unsound_is = (
    λ f. unsound_entry_lem cat es f,
    λ h p. h.2 ((sound_entries_is cat es).0 p h.0 h.1),
  )

  uncovered_is : (T all_covered → ⊥) ↔ HasUncoveredSet cat es rs
  uncovered_is = (
    λ f. uncovered_set_lem es rs cat f,
    λ h p. h.4 ((covered_sets_is es rs cat).0 p h.0 h.1 h.2 h.3),
  )

  -- the code in words, above 15 and where there is none
  false_code : (verify_code cat file bytes ≡ number FalseRecord)
      ↔ ((check_code cat ≡ 0) × (read_code file ≡ 0) × HasFalseRecord cat bytes)
  false_code = (
    λ e.
        let w = (code_is (number FalseRecord) (inr (omega arith))).0 e in
        (w.0, w.1, false_is.0 ((first_is all_true all_sound all_covered).0 w.2)),
    λ w.
        (code_is (number FalseRecord) (inr (omega arith))).1
        (w.0, w.1, (first_is all_true all_sound all_covered).1 (false_is.1 w.2)),
  )

  unsound_code : (verify_code cat file bytes ≡ number UnsoundEntry)
      ↔ ((check_code cat ≡ 0) × (read_code file ≡ 0) × TrueRecords cat bytes × HasUnsoundEntry cat es)
  unsound_code = (
    λ e.
        let w = (code_is (number UnsoundEntry) (inr (omega arith))).0 e in
        let v = (second_is all_true all_sound all_covered).0 w.2 in
        (w.0, w.1, (true_records_is cat bytes).0 v.0, unsound_is.0 v.1),
    λ w.
        (code_is (number UnsoundEntry) (inr (omega arith))).1 (
          w.0,
          w.1,
          (second_is all_true all_sound all_covered).1
              ((true_records_is cat bytes).1 w.2, unsound_is.1 w.3),
        ),
  )

  uncovered_code : (verify_code cat file bytes ≡ number UncoveredSet)
      ↔ ((check_code cat ≡ 0) × (read_code file ≡ 0) × TrueRecords cat bytes × SoundEntries cat es
      × HasUncoveredSet cat es rs)
  uncovered_code = (
    λ e.
        let w = (code_is (number UncoveredSet) (inr (omega arith))).0 e in
        let v = (third_is all_true all_sound all_covered).0 w.2 in (
          w.0,
          w.1,
          (true_records_is cat bytes).0 v.0,
          (sound_entries_is cat es).0 v.1,
          uncovered_is.0 v.2,
        ),
    λ w.
        (code_is (number UncoveredSet) (inr (omega arith))).1 (
          w.0,
          w.1,
          (third_is all_true all_sound all_covered).1
              ((true_records_is cat bytes).1 w.2, (sound_entries_is cat es).1 w.3, uncovered_is.1 w.4),
        ),
  )

  pub none_code : (verify_code cat file bytes ≡ 0)
      ↔ ((check_code cat ≡ 0) × (read_code file ≡ 0) × TrueRecords cat bytes × SoundEntries cat es
      × CoveredSets cat es rs)
  none_code = (
    λ e.
        let w = (code_is 0 (inl refl)).0 e in
        let v = (none_of_three all_true all_sound all_covered).0 w.2 in (
          w.0,
          w.1,
          (true_records_is cat bytes).0 v.0,
          (sound_entries_is cat es).0 v.1,
          (covered_sets_is es rs cat).0 v.2,
        ),
    λ w.
        (code_is 0 (inl refl)).1 (
          w.0,
          w.1,
          (none_of_three all_true all_sound all_covered).1 (
            (true_records_is cat bytes).1 w.2,
            (sound_entries_is cat es).1 w.3,
            (covered_sets_is es rs cat).1 w.4,
          ),
        ),
  )

  -- a code that is not 0 is one of the refusals
  code_one : (verify_code cat file bytes ≡ 0) ⊎ VerifyRefusal (verify_code cat file bytes)
  unfolding verify_code evidence_code records_code sound_code cover_code
  code_one =
      or_else_has One (low (check_code cat) (check_code_le cat) (ℕ_discrete (check_code cat) 0))
      (or_else_has One (listed (read_code_one file))
      (or_else_has One (pick_has One all_true (inl refl) (inr (inr (inr (inr (inl refl))))))
      (or_else_has One (pick_has One all_sound (inl refl) (inr (inr (inr (inr (inr (inl refl)))))))
      (pick_has One all_covered (inl refl) (inr (inr (inr (inr (inr (inr refl))))))))))
    where
      One : ℕ → Type 0
      One n = (n ≡ 0) ⊎ VerifyRefusal n

      low : (n : ℕ) → n ≤ number BadParentRow → Dec (n ≡ 0) → One n
      low n l (yes z) = inl z
      low n l (no z) = inr (inl (omega arith, l))

      listed : {n : ℕ} → ListCode n → One n
      listed (inl e) = inl e
      listed (inr (inl e)) = inr (inr (inl e))
      listed (inr (inr e)) = inr (inr (inr (inl e)))

  -- the reply by the code
  abbrev values : List ℕ
  values = count_in file ∷ record_count bytes ∷ []

  refuses : (n : ℕ) → (n ≡ 0 → ⊥) → (verify_meaning cat file bytes ≡ refused n) ↔ (verify_code cat file bytes ≡ n)
  unfolding verify_meaning
  refuses n some = refused_is (verify_code cat file bytes) values n some

  answers : (verify_meaning cat file bytes ≡ answered values) ↔ (verify_code cat file bytes ≡ 0)
  unfolding verify_meaning
  answers = answered_is (verify_code cat file bytes) values

  refuses_one : (n : ℕ) → verify_meaning cat file bytes ≡ refused n → VerifyRefusal n
  unfolding verify_meaning
  refuses_one n e = at (refused_by (verify_code cat file bytes) values (sym e)) code_one
    where
      at : (n ≡ verify_code cat file bytes) × (verify_code cat file bytes ≡ 0 → ⊥)
          → (verify_code cat file bytes ≡ 0) ⊎ VerifyRefusal (verify_code cat file bytes) → VerifyRefusal n
      at by (inl z) = absurd (by.1 z)
      at by (inr r) = subst VerifyRefusal (sym by.0) r

  first_code : (check_code cat ≡ 0 → ⊥) → verify_code cat file bytes ≡ check_code cat
  unfolding verify_code
  first_code some = or_else_first _ some

  next_code : check_code cat ≡ 0 → (read_code file ≡ 0 → ⊥) → verify_code cat file bytes ≡ read_code file
  unfolding verify_code
  next_code z some = or_else_next _ z ∙ or_else_first _ some

  pub verify_grounds : VerifyGrounds cat file bytes
  verify_grounds =
      record {
        catalogue = λ some. (refuses (check_code cat) some).1 (first_code some);
        list = λ z some. (refuses (read_code file) some).1 (next_code z some);
        false_record = Iff.trans (refuses (number FalseRecord) (omega arith)) false_code;
        unsound_entry = Iff.trans (refuses (number UnsoundEntry) (omega arith)) unsound_code;
        uncovered_set = Iff.trans (refuses (number UncoveredSet) (omega arith)) uncovered_code;
        no_other = refuses_one;
        accepted = Iff.trans answers none_code;
      }
