-- Evidence for a catalogue (document 02, b, d and e): for each target, each right of it and each backed set without
-- that right for which the dependency fails, one record, with the first breaking pair. There are more records than are
-- needed, but each backed failing set has its own.
use Rattle.std.specs.Prelude.{ℕ, zero, suc, ◌^◌, Bool, not, ◌&&◌, List, [], ◌∷◌, ◌++◌, get_or}
use Rattle.columns.specs.Test.{pick}
use Rattle.model.specs.Bytes.{Bytes}
use Rattle.model.specs.Catalogue.{tables, visible}
use Rattle.model.specs.View.{is_in, holds, backed}
use Rattle.model.specs.Target.{view}
use Rattle.model.specs.Pair.{first_pair}
use Rattle.model.specs.Listing.{ordinary, rights_of}
use Rattle.model.specs.Evidence.{records_bytes, records_held}
use Rattle.model.specs.Verify.{TrueRecords}
use Rattle.model.specs.declared.Evidence.{Evidence}
use Rattle.acceptance.specs.Acceptance.{FailuresRecorded}

-- what f gives for the numbers below n, and for the elements of a list, one after the other
unfoldable pub gather_below : {A : Type 0} → ℕ → (ℕ → List A) → List A
gather_below zero f = []
gather_below (suc n) f = gather_below n f ++ f n

unfoldable pub gather_in : {A : Type 0} {B : Type 0} → List A → (A → List B) → List B
gather_in [] f = []
gather_in (x ∷ xs) f = f x ++ gather_in xs f

-- the test of a backed failing set, where 8 to 10 allow the set and the right
unfoldable pub failing : List ℕ → ℕ → ℕ → ℕ → Bool
failing cat target x right =
    not (is_in right x) && (backed (view cat target) x && not (holds (view cat target) x right))

-- the record of a set with its first breaking pair
unfoldable pub record_of : List ℕ → ℕ → ℕ → ℕ → Evidence
record_of cat target x right =
    record {
      target = target;
      right = right;
      set = x;
      first = get_or (first_pair (view cat target) x right) 0 0;
      second = get_or (first_pair (view cat target) x right) 1 0;
    }

-- the records of one target and right, of one target, and all
unfoldable pub records_of_right : List ℕ → ℕ → ℕ → List Evidence
records_of_right cat target right =
    gather_below (2 ^ visible cat target)
    (λ x. pick (failing cat target x right) (record_of cat target x right ∷ []) [])

unfoldable pub records_of_target : List ℕ → ℕ → List Evidence
records_of_target cat target = gather_in (rights_of (ordinary cat) target) (records_of_right cat target)

unfoldable pub records_of : List ℕ → List Evidence
records_of cat = gather_below (tables cat) (records_of_target cat)

-- as bytes
unfoldable pub evidence_of : List ℕ → List ℕ
evidence_of cat = records_bytes (records_of cat)

-- they are evidence for the full listing: bytes, whose records are all true, with one above each backed failing set
pub record EvidenceExists (cat : List ℕ) : Type 0 where
  pub bytes : Bytes (evidence_of cat)
  pub records : TrueRecords cat (evidence_of cat)
  pub failures : FailuresRecorded cat (records_held (evidence_of cat))
