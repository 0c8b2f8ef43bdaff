use Rattle.std.proofs.Common.{ℕ, ◌+◌, ◌≡◌, List, length, ◌∙◌}
use lib.ListN.{length-replicate, replicate}
use Rattle.std.proofs.lemmas.Result.{on_ok_weaker, on_err_weaker}
use Rattle.list.proofs.Front.{same_answer, whole_answer, torn_answer}
use Rattle.model.specs.Bounds.{file_bound}
use Rattle.list.proofs.list.Goals as goal

long : (bytes : List ℕ) → length bytes ≡ length (replicate {A = ℕ} (file_bound + 1) 0) → length bytes ≡ file_bound + 1
long bytes e = e ∙ length-replicate {A = ℕ} (file_bound + 1) 0

pub returns-clause-whole : goal.returns-clause-whole
returns-clause-whole g c =
    on_ok_weaker _
    (whole_answer _ _ _ _ (same_answer _ _ _ _ (long _ c.read_front.auto.bytes) c.in_ok-n.ensures.within c.in_ok-n.ensures.taken c.in_ok-n.ensures.end))
    c.print.ensures.whole

pub returns-clause-torn : goal.returns-clause-torn
returns-clause-torn g c =
    on_err_weaker _
    (torn_answer _ _ _ _ (same_answer _ _ _ _ (long _ c.read_front.auto.bytes) c.in_ok-n.ensures.within c.in_ok-n.ensures.taken c.in_ok-n.ensures.end))
    c.print.ensures.torn
