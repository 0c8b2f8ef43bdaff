-- What is answered where neither the catalogue nor the list is refused: 17 to 19, or how many entries and records.
use Rattle.std.specs.Prelude.{ℕ, List, [], ◌∷◌, length}
use Rattle.model.specs.Reply.{Reply, reply_of}
use Rattle.model.specs.Evidence.{record_count}
use Rattle.model.specs.Verify.{evidence_code}
use Rattle.model.specs.declared.Entry.{Entry}

unfoldable pub judged_meaning : List ℕ → List Entry → List ℕ → Reply
judged_meaning cat es bytes = reply_of (evidence_code cat es bytes) (length es ∷ record_count bytes ∷ [])
