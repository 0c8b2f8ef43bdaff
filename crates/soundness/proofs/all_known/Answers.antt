-- `soundness::all_known` meets its contract: entry by entry.
use Prim.Native.Nat.{◌<◌}
use mathlib.Core.Path.{refl}
use borrow.Author.Rules.{rules}
use borrow.Author.Tests.{tests}
use Rattle.model.specs.declared.Entry.{Entry}
use Rattle.evidence.proofs.Answers.{same_as}
use Rattle.evidence.proofs.Lists.{each_entry}
use Rattle.evidence.proofs.Ranges.{all_below}
use Rattle.marks.specs.Run.{entry_of}
use Rattle.soundness.proofs.all_known.Goals as goal

pub returns : goal.returns
returns c =
    let a = c.args in
    same_as (each_entry (λ (e : Entry). e.target < a.tables) a.list.file.now a.list.count a.list.first)
    (all_below _ _ _ _ (λ i. (entry_of a.list i).target < a.tables) c.all.ensures.ran
    (λ x q k. search (rules, tests)) (λ x q k. search (rules, tests)) refl)
