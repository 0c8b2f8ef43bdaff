-- `EvidenceRecords::of` meets its contract: as many records as are held.
use mathlib.Core.Path.{refl}
use Rattle.model.specs.Evidence.{records_held, record_count}
use Rattle.evidence.proofs.run.EvidenceRecords.of.Goals as goal

pub returns : goal.returns
unfolding records_held record_count
returns c = refl
