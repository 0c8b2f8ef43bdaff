-- The records of a run, and one by its index.
use Rattle.std.specs.Prelude.{ℕ, ◌*◌, List}
use Rattle.model.specs.Evidence.{evidence_bytes, record_at, records_from}
use Rattle.model.specs.declared.Evidence.{Evidence}
use Rattle.evidence.specs.declared.run.EvidenceRecords.{EvidenceRecords}

abbrev pub records_of : EvidenceRecords → List Evidence
records_of r = records_from r.bytes.now r.count 0

abbrev pub record_of : EvidenceRecords → ℕ → Evidence
record_of r i = record_at r.bytes.now (evidence_bytes * i)
