-- The check of a packed list by evidence (document 02, b, d and e): when an entry is sound and a set is covered, in the
-- words of the document and beside it as tests that compute, refusals 17 to 19, and what the call replies. That words
-- and tests say the same is shown in proofs/Tests.antt of `evidence`.
use Rattle.std.specs.Prelude.{ℕ, ◌^◌, ◌≡◌, ◌⊎◌, Bool, not, ◌&&◌, ◌||◌, T, eqb}
use mathlib.Core.List.{List, [], ◌∷◌, Memᴰ}
use Rattle.columns.specs.Set.{within_of}
use Rattle.columns.specs.Test.{pick}
use Rattle.model.specs.Bounds.{row}
use Rattle.model.specs.Refusal.{number, or_else}
use Rattle.model.specs.Reply.{Reply, reply_of}
use Rattle.model.specs.Catalogue.{tables, visible}
use Rattle.model.specs.Check.{check_code}
use Rattle.model.specs.View.{In, Holds, Backed, is_in, holds, backed, all_below}
use Rattle.model.specs.Target.{view}
use Rattle.model.specs.Question.{sides_code}
use Rattle.model.specs.Listing.{ordinary, rights_of}
use Rattle.model.specs.Contains.{Inside, EntryFor, ContainsListed, ContainsKey}
use Rattle.model.specs.Reading.{count_in, entries_held, read_code}
use Rattle.model.specs.Evidence.{TrueRecord, is_true_record, all_in, some_in, record_count, records_held}
use Rattle.model.specs.Evidence.{unbroken}
use Rattle.model.specs.declared.Entry.{Entry}
use Rattle.model.specs.declared.Evidence.{Evidence}
use Rattle.model.specs.declared.Refusal.TheVariants.{FalseRecord, UnsoundEntry, UncoveredSet}

-- a record is for a target and a right
abbrev pub RecordFor : ℕ → ℕ → Evidence → Type 0
RecordFor target right e = (e.target ≡ target) × (e.right ≡ right)

-- an entry contains no other left that is listed for its target and right
abbrev pub NoOther : List Entry → Entry → Type 0
NoOther es e =
    (f : Entry) → Memᴰ f es → EntryFor e.target e.right f → (f.left ≡ e.left → ⊥)
    → Inside f.left e.left → ⊥

-- if its right is a column, its left contains no listed key of its target, itself included
abbrev pub NoKey : List Entry → Entry → Type 0
NoKey es e = (e.right ≡ row → ⊥) → ContainsKey es e.target e.left → ⊥

-- an entry of a list is sound: it does not fall under 8 to 10, it is backed, it holds, it contains no other, and if its
-- right is a column, it contains no listed key
pub record SoundEntry (cat : List ℕ) (es : List Entry) (e : Entry) : Type 0 where
  pub allowed : sides_code cat e.target e.left e.right ≡ 0
  pub backed : Backed (view cat e.target) e.left
  pub holds : Holds (view cat e.target) e.left e.right
  pub alone : NoOther es e
  pub keyless : NoKey es e

-- what must be covered: a target, a set and a right of it, the set backed and without that right
pub record Candidate (cat : List ℕ) (target x right : ℕ) : Type 0 where
  pub allowed : sides_code cat target x right ≡ 0
  pub outside : In right x → ⊥
  pub backed : Backed (view cat target) x

-- a set is covered for a target and a right: it contains a left listed for the two, or a listed key of the target, or
-- it lies inside the set of a record for the two
abbrev pub InsideRecord : List Evidence → ℕ → ℕ → ℕ → Type 0
InsideRecord rs target right x =
    (e : Evidence) × Memᴰ e rs × RecordFor target right e × Inside x e.set

abbrev pub Covered : List Entry → List Evidence → ℕ → ℕ → ℕ → Type 0
Covered es rs target right x =
    ContainsListed es target right x ⊎ (ContainsKey es target x ⊎ InsideRecord rs target right x)

-- all records are true, and none is broken; all entries are sound; each candidate is covered
pub record TrueRecords (cat bytes : List ℕ) : Type 0 where
  pub whole : T (unbroken bytes)
  pub each : (e : Evidence) → Memᴰ e (records_held bytes) → TrueRecord cat e

abbrev pub SoundEntries : List ℕ → List Entry → Type 0
SoundEntries cat es = (e : Entry) → Memᴰ e es → SoundEntry cat es e

abbrev pub CoveredSets : List ℕ → List Entry → List Evidence → Type 0
CoveredSets cat es rs =
    (target x right : ℕ) → Candidate cat target x right → Covered es rs target right x

-- the tests
unfoldable pub is_for : ℕ → ℕ → ℕ → ℕ → Bool
is_for target right t a = eqb t target && eqb a right

unfoldable pub contains_listed : List Entry → ℕ → ℕ → ℕ → Bool
contains_listed es target right x =
    some_in (λ f. is_for target right f.target f.right && within_of f.left x) es

unfoldable pub is_sound_entry : List ℕ → List Entry → Entry → Bool
is_sound_entry cat es e =
    eqb (sides_code cat e.target e.left e.right) 0
    && (backed (view cat e.target) e.left
    && (holds (view cat e.target) e.left e.right
    && (not (some_in (λ f. is_for e.target e.right f.target f.right
    && (not (eqb f.left e.left) && within_of f.left e.left)) es)
    && (eqb e.right row || not (contains_listed es e.target row e.left)))))

unfoldable pub is_covered : List Entry → List Evidence → ℕ → ℕ → ℕ → Bool
is_covered es rs target right x =
    contains_listed es target right x
    || (contains_listed es target row x
    || some_in (λ f. is_for target right f.target f.right && within_of x f.set) rs)

unfoldable pub are_true_records : List ℕ → List ℕ → Bool
are_true_records cat bytes = unbroken bytes && all_in (is_true_record cat) (records_held bytes)

unfoldable pub are_sound_entries : List ℕ → List Entry → Bool
are_sound_entries cat es = all_in (is_sound_entry cat es) es

unfoldable pub are_covered_sets : List ℕ → List Entry → List Evidence → Bool
are_covered_sets cat es rs =
    all_below (tables cat) (λ target. all_in (λ right. all_below (2 ^ visible cat target) (λ x. is_in right x
    || (not (backed (view cat target) x) || is_covered es rs target right x))) (rights_of (ordinary cat) target))

-- 17: a record is not true
unfoldable pub records_code : List ℕ → List ℕ → ℕ
records_code cat bytes = pick (are_true_records cat bytes) 0 (number FalseRecord)

-- 18: an entry is not sound
unfoldable pub sound_code : List ℕ → List Entry → ℕ
sound_code cat es = pick (are_sound_entries cat es) 0 (number UnsoundEntry)

-- 19: a set is not covered
unfoldable pub cover_code : List ℕ → List Entry → List Evidence → ℕ
cover_code cat es rs = pick (are_covered_sets cat es rs) 0 (number UncoveredSet)

-- 17 over all records, then 18 over all entries, then 19
unfoldable pub evidence_code : List ℕ → List Entry → List ℕ → ℕ
evidence_code cat es bytes =
    or_else (records_code cat bytes) (or_else (sound_code cat es) (cover_code cat es (records_held bytes)))

-- the first ground against the call: the catalogue's (1 to 7), then the list's (14, 15), then 17 to 19
unfoldable pub verify_code : List ℕ → List ℕ → List ℕ → ℕ
verify_code cat file bytes =
    or_else (check_code cat) (or_else (read_code file) (evidence_code cat (entries_held file) bytes))

-- accepted: how many entries, and how many records
unfoldable pub verify_meaning : List ℕ → List ℕ → List ℕ → Reply
verify_meaning cat file bytes = reply_of (verify_code cat file bytes) (count_in file ∷ record_count bytes ∷ [])
