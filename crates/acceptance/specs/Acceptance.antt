-- What the check of a packed list by evidence promises (document 02, b, d and e): what is accepted is the full listing,
-- and a full listing is accepted if all records are true and each backed failing set has one above it.
use Rattle.std.specs.Prelude.{ℕ, ◌≡◌, List}
use Rattle.model.specs.Calls.{flat}
use Rattle.model.specs.Check.{Accepted}
use Rattle.model.specs.View.{Holds}
use Rattle.model.specs.Target.{view}
use Rattle.model.specs.Listing.{ordinary, cells}
use Rattle.model.specs.Reading.{entries_held, read_code}
use Rattle.model.specs.Evidence.{records_held}
use Rattle.model.specs.Verify.{Candidate, InsideRecord, TrueRecords}
use Rattle.model.specs.declared.Entry.{Entry}
use Rattle.model.specs.declared.Evidence.{Evidence}

-- the full listing of a catalogue
abbrev pub full_listing : List ℕ → List Entry
full_listing cat = flat (cells (ordinary cat))

-- a backed failing set: a candidate, so backed and without the right, for which the dependency does not hold
pub record Fails (cat : List ℕ) (target x right : ℕ) : Type 0 where
  pub candidate : Candidate cat target x right
  pub broken : Holds (view cat target) x right → ⊥

-- each backed failing set has a record above it: it lies inside the set of a record for its target and right
abbrev pub FailuresRecorded : List ℕ → List Evidence → Type 0
FailuresRecorded cat rs = (target x right : ℕ) → Fails cat target x right → InsideRecord rs target right x

-- what is accepted: an accepted catalogue, a packed list without a ground of its own that is the full listing, and
-- evidence that is true and has a record above each backed failing set
pub record FullWithEvidence (cat file bytes : List ℕ) : Type 0 where
  pub catalogue : Accepted cat
  pub list : read_code file ≡ 0
  pub full : entries_held file ≡ full_listing cat
  pub records : TrueRecords cat bytes
  pub failures : FailuresRecorded cat (records_held bytes)
