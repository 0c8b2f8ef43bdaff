-- `records::all_known` meets its contract: record by record.
use mathlib.Core.Path.{refl}
use Prim.Native.Nat.{◌<◌}
use borrow.Author.Rules.{rules}
use borrow.Author.Tests.{tests}
use Rattle.model.specs.declared.Evidence.{Evidence}
use Rattle.evidence.specs.Run.{record_of}
use Rattle.evidence.proofs.Answers.{same_as}
use Rattle.evidence.proofs.Lists.{each_record}
use Rattle.evidence.proofs.Ranges.{all_below}
use Rattle.records.proofs.all_known.Goals as goal

pub returns : goal.returns
returns c =
    let a = c.args in
    same_as (each_record (λ (e : Evidence). e.target < a.tables) a.records.bytes.now a.records.count)
    (all_below _ _ _ _ (λ i. (record_of a.records i).target < a.tables) c.all.ensures.ran
    (λ x q k. search (rules, tests)) (λ x q k. search (rules, tests)) refl)
