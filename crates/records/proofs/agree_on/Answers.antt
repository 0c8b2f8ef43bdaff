-- `records::agree_on` meets its contract: column by column.
use mathlib.Core.Path.{refl}
use borrow.Author.Rules.{rules}
use borrow.Author.Tests.{tests}
use Rattle.evidence.proofs.Ranges.{all_below}
use Rattle.records.specs.True.{AgreeAt}
use Rattle.records.proofs.agree_on.Goals as goal

pub returns : goal.returns
returns c =
    let a = c.args in
    all_below _ _ _ _ (AgreeAt a.keys a.set a.p a.q) c.all.ensures.ran
    (λ x q k. search (rules, tests)) (λ x q k. search (rules, tests)) refl
