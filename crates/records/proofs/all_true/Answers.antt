-- `records::all_true` meets its contract: record by record.
use mathlib.Core.Path.{refl}
use borrow.Author.Rules.{rules}
use borrow.Author.Tests.{tests}
use Rattle.evidence.specs.Run.{record_of}
use Rattle.evidence.proofs.Answers.{same_as}
use Rattle.evidence.proofs.Lists.{each_record}
use Rattle.evidence.proofs.Ranges.{all_below}
use Rattle.records.specs.True.{TrueByFor}
use Rattle.records.proofs.all_true.Goals as goal

pub returns : goal.returns
returns c =
    let a = c.args in
    same_as (each_record (TrueByFor a.keys a.low a.target) a.records.bytes.now a.records.count)
    (all_below _ _ _ _ (λ i. TrueByFor a.keys a.low a.target (record_of a.records i)) c.all.ensures.ran
    (λ x q k. search (rules, tests)) (λ x q k. search (rules, tests)) refl)
