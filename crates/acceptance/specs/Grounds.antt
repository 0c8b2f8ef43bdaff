-- The replies of the check by evidence, in words (document 02, b, d and e): what each refusal says, that nothing else
-- is refused by it, the order, and that there are no others.
use Rattle.std.specs.Prelude.{ℕ, ◌≤◌, ◌≡◌, ◌⊎◌, ◌↔◌, T}
use mathlib.Core.List.{List, [], ◌∷◌, Memᴰ}
use Rattle.model.specs.Refusal.{number}
use Rattle.model.specs.Check.{check_code}
use Rattle.model.specs.Reply.{refused, answered}
use Rattle.model.specs.Reading.{count_in, entries_held, read_code}
use Rattle.model.specs.Evidence.{TrueRecord, record_count, records_held, unbroken}
use Rattle.model.specs.Verify.{SoundEntry, Candidate, Covered, TrueRecords, SoundEntries, CoveredSets, verify_meaning}
use Rattle.model.specs.declared.Entry.{Entry}
use Rattle.model.specs.declared.Evidence.{Evidence}
use Rattle.model.specs.declared.Refusal.TheVariants.{BadParentRow, NoList, BadEntry, FalseRecord, UnsoundEntry}
use Rattle.model.specs.declared.Refusal.TheVariants.{UncoveredSet}

-- a record is not true: the last one is broken, or one that is read is not
abbrev pub HasFalseRecord : List ℕ → List ℕ → Type 0
HasFalseRecord cat bytes =
    (T (unbroken bytes) → ⊥) ⊎ ((e : Evidence) × Memᴰ e (records_held bytes) × (TrueRecord cat e → ⊥))

-- an entry is not sound: it falls under 8 to 10, is unbacked, fails, contains another, or is a column's and contains a
-- listed key
abbrev pub HasUnsoundEntry : List ℕ → List Entry → Type 0
HasUnsoundEntry cat es = (e : Entry) × Memᴰ e es × (SoundEntry cat es e → ⊥)

-- a candidate is not covered: a backed set without the right
abbrev pub HasUncoveredSet : List ℕ → List Entry → List Evidence → Type 0
HasUncoveredSet cat es rs =
    (target : ℕ) × (x : ℕ) × (right : ℕ) × Candidate cat target x right × (Covered es rs target right x → ⊥)

-- the numbers that the check refuses by: the catalogue's 1 to 7, the list's 14 and 15, then 17, 18 and 19
abbrev pub VerifyRefusal : ℕ → Type 0
VerifyRefusal n =
    ((1 ≤ n) × (n ≤ number BadParentRow)) ⊎ ((n ≡ number NoList) ⊎ ((n ≡ number BadEntry)
    ⊎ ((n ≡ number FalseRecord) ⊎ ((n ≡ number UnsoundEntry) ⊎ (n ≡ number UncoveredSet)))))

-- so they lie from 1 to 19, and none of them is a ground of another call: 8 to 13, or 16
pub record VerifyRefusals : Type 0 where
  pub range : (n : ℕ) → VerifyRefusal n → (1 ≤ n) × (n ≤ 19)
  pub other_calls : (n : ℕ) → VerifyRefusal n → 8 ≤ n → 14 ≤ n
  pub output : VerifyRefusal 16 → ⊥

pub record VerifyGrounds (cat file bytes : List ℕ) : Type 0 where
  -- the catalogue's refusal comes first, then the list's
  pub catalogue : (check_code cat ≡ 0 → ⊥) → verify_meaning cat file bytes ≡ refused (check_code cat)
  pub list : check_code cat ≡ 0 → (read_code file ≡ 0 → ⊥) → verify_meaning cat file bytes ≡ refused (read_code file)
  -- 17, 18 and 19
  pub false_record : (verify_meaning cat file bytes ≡ refused (number FalseRecord))
      ↔ ((check_code cat ≡ 0) × (read_code file ≡ 0) × HasFalseRecord cat bytes)
  pub unsound_entry : (verify_meaning cat file bytes ≡ refused (number UnsoundEntry))
      ↔ ((check_code cat ≡ 0) × (read_code file ≡ 0) × TrueRecords cat bytes × HasUnsoundEntry cat (entries_held file))
  pub uncovered_set : (verify_meaning cat file bytes ≡ refused (number UncoveredSet))
      ↔ ((check_code cat ≡ 0) × (read_code file ≡ 0) × TrueRecords cat bytes × SoundEntries cat (entries_held file)
      × HasUncoveredSet cat (entries_held file) (records_held bytes))
  -- by no other number
  pub no_other : (n : ℕ) → verify_meaning cat file bytes ≡ refused n → VerifyRefusal n
  -- accepted
  pub accepted : (verify_meaning cat file bytes ≡ answered (count_in file ∷ record_count bytes ∷ []))
      ↔ ((check_code cat ≡ 0) × (read_code file ≡ 0) × TrueRecords cat bytes × SoundEntries cat (entries_held file)
      × CoveredSets cat (entries_held file) (records_held bytes))
