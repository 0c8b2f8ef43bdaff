-- `soundness::entries_fit` meets its contract: entry by entry.
use mathlib.Core.Path.{refl}
use borrow.Author.Rules.{rules}
use borrow.Author.Tests.{tests}
use Rattle.evidence.proofs.Answers.{same_as}
use Rattle.evidence.proofs.Lists.{each_entry}
use Rattle.evidence.proofs.Ranges.{all_below}
use Rattle.marks.specs.Run.{entry_of}
use Rattle.soundness.specs.Sound.{FitsFor}
use Rattle.soundness.proofs.entries_fit.Goals as goal

pub returns : goal.returns
returns c =
    let a = c.args in
    same_as (each_entry (FitsFor a.n a.low a.target) a.list.file.now a.list.count a.list.first)
    (all_below _ _ _ _ (λ i. FitsFor a.n a.low a.target (entry_of a.list i)) c.all.ensures.ran
    (λ x q k. search (rules, tests)) (λ x q k. search (rules, tests)) refl)
