-- `evidence::record_at` meets its contract: from the eight bytes, or zeros past the end.
use Rattle.model.specs.Evidence.{record_at}
use Rattle.evidence.proofs.Records.{record_past}
use Rattle.evidence.proofs.record_at.Goals as goal

pub returns-then-bytes-at : goal.returns-then-bytes-at
returns-then-bytes-at c = record_past _ _ c.if-bytes-at.true

pub returns : goal.returns
unfolding record_at
returns c = cc
