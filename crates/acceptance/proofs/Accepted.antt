-- What the call replies where it accepts: it does so exactly for the full listing with true records above all backed
-- failing sets, and answers the number of entries of the full listing and the number of records.
use Prim.Native.Nat.{ℕ}
use mathlib.Core.Path.{◌≡◌, sym, ap, ◌∙◌}
use mathlib.Core.Logic.{◌↔◌}
use mathlib.Core.List.{List, [], ◌∷◌}
use lib.ListN.{length}
use Rattle.model.specs.Check.{Accepted}
use Rattle.model.specs.Reply.{answered}
use Rattle.model.specs.Reading.{count_in}
use Rattle.model.specs.Evidence.{record_count}
use Rattle.model.specs.Album.{album}
use Rattle.model.specs.Supplied.{album_list, album_evidence}
use Rattle.model.specs.Verify.{verify_code, verify_meaning}
use Rattle.model.proofs.Grounds.{reply_answered}
use Rattle.model.proofs.Supplied.{supplied}
use Rattle.entries.proofs.Entries.{length_in}
use Rattle.evidence.proofs.Records.{record_count_lem}
use Rattle.packed.proofs.Opening.{answered_by}
use Rattle.acceptance.specs.Acceptance.{full_listing, FullWithEvidence}
use Rattle.acceptance.specs.Exists.{records_of, evidence_of}
use Rattle.acceptance.specs.Packed.{full_file}
use Rattle.acceptance.proofs.Grounds.{none_code}
use Rattle.acceptance.proofs.Full.{accepted_exactly}
use Rattle.acceptance.proofs.Exists.{evidence_exists}
use Rattle.acceptance.proofs.Packed.{listing_read}

module _ (cat file bytes : List ℕ) where
  -- what is accepted is the full listing with its evidence, and that is accepted
  pub accepts_exactly : (verify_code cat file bytes ≡ 0) ↔ FullWithEvidence cat file bytes
  accepts_exactly = (
    λ z. (accepted_exactly cat file bytes).0 ((none_code cat file bytes).0 z),
    λ h. (none_code cat file bytes).1 ((accepted_exactly cat file bytes).1 h),
  )

  -- the reply then: how many entries the full listing has, and how many records there are
  pub accepted_reply : FullWithEvidence cat file bytes
      → verify_meaning cat file bytes ≡ answered (length (full_listing cat) ∷ record_count bytes ∷ [])
  unfolding verify_meaning
  accepted_reply h =
      sym (reply_answered (count_in file ∷ record_count bytes ∷ []) (accepts_exactly.1 h))
      ∙ ap (λ (n : ℕ). answered (n ∷ record_count bytes ∷ [])) (sym (length_in file) ∙ ap length h.full)

  -- and an answer is given for nothing else
  pub reply_accepted : (values : List ℕ) → verify_meaning cat file bytes ≡ answered values
      → FullWithEvidence cat file bytes
  unfolding verify_meaning
  reply_accepted values e =
      accepts_exactly.0 (answered_by (verify_code cat file bytes) (count_in file ∷ record_count bytes ∷ []) (sym e)).0

-- the album's list with its evidence is accepted
pub album_accepted_lem : FullWithEvidence album album_list album_evidence
album_accepted_lem = reply_accepted album album_list album_evidence (3 ∷ 6 ∷ []) supplied.whole

-- for every accepted catalogue there is evidence with which its full listing, packed behind any front, is accepted
pub full_accepted : (cat : List ℕ) → Accepted cat → (front : List ℕ)
    → FullWithEvidence cat (full_file front cat) (evidence_of cat)
full_accepted cat ok front =
    let evidence = evidence_exists cat ok in
    let listing = listing_read cat ok front in
    record {
      catalogue = ok;
      list = listing.accepted;
      full = listing.entries;
      records = evidence.records;
      failures = evidence.failures;
    }

pub full_reply : (cat : List ℕ) → Accepted cat → (front : List ℕ)
    → verify_meaning cat (full_file front cat) (evidence_of cat)
    ≡ answered (length (full_listing cat) ∷ length (records_of cat) ∷ [])
unfolding evidence_of
full_reply cat ok front =
    accepted_reply cat (full_file front cat) (evidence_of cat) (full_accepted cat ok front)
    ∙ ap (λ (n : ℕ). answered (length (full_listing cat) ∷ n ∷ [])) (record_count_lem (records_of cat))
