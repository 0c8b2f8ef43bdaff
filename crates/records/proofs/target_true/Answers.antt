-- `records::target_true` meets its contract.
use Rattle.evidence.proofs.Answers.{same_answer}
use Rattle.keys.proofs.Catalogue.{keyed_for}
use Rattle.records.proofs.Laws.{all_true_by}
use Rattle.records.proofs.target_true.Goals as goal

pub returns : goal.returns
returns c =
    let t = c.args.target in
    let by = all_true_by t.cat.now _ _ t.table _ t.known c.inherited-low.ensures.is
    (keyed_for _ c.members-n.ensures.is c.rows-end.ensures.is c.lay_all.ensures) in
    same_answer by.0 by.1 c.all_true.ensures
