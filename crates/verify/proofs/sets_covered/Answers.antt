-- `verify::sets_covered` meets its contract: target by target.
use Prim.Native.Nat.{◌<◌}
use mathlib.Core.Path.{refl, ◌∙◌}
use native.Mathlib.Omega.{arith}
use borrow.Author.Rules.{rules}
use borrow.Author.Tests.{tests}
use Rattle.std.proofs.lemmas.Iterator.{serves_from_Range}
use Rattle.model.specs.Catalogue.{tables}
use Rattle.evidence.specs.Run.{records_of}
use Rattle.evidence.proofs.Answers.{same_answer}
use Rattle.evidence.proofs.Ranges.{all_below}
use Rattle.marks.specs.Run.{entries_of}
use Rattle.coverage.specs.Covered.{TargetCovered}
use Rattle.verify.proofs.Laws.{all_targets_covered}
use Rattle.verify.proofs.sets_covered.Goals as goal

pub all-requires-clause-callable : goal.all-requires-clause-callable
all-requires-clause-callable c =
    serves_from_Range (λ x q k. search (rules, tests))
    (λ x low high.
    let known : x < tables c.args.cat.now = omega (arith, high, c.from-end.ensures, c.tables.ensures) in
    let accepted = c.requires.0 in
    let sound = c.requires.1 in
    let true-records = c.requires.2 in
    search rules)

pub returns : goal.returns
returns c =
    let a = c.args in
    let by = all_targets_covered a.cat.now _ (c.from-end.ensures ∙ c.tables.ensures) _ in
    same_answer by.0 by.1
    (all_below _ _ _ _ (TargetCovered a.cat.now (entries_of a.list) (records_of a.records)) c.all.ensures.ran
    (λ x q k. search (rules, tests)) (λ x q k. search (rules, tests)) refl)
