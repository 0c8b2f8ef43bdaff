-- `verify::records_true` meets its contract: target by target.
use Prim.Native.Nat.{◌<◌}
use mathlib.Core.Path.{ap, refl, ◌∙◌}
use mathlib.Core.Bool.{not}
use native.Mathlib.Omega.{arith}
use borrow.Author.Rules.{rules}
use borrow.Author.Tests.{tests}
use Rattle.std.proofs.lemmas.Iterator.{serves_from_Range}
use Rattle.model.specs.Catalogue.{tables}
use Rattle.evidence.specs.Run.{records_of}
use Rattle.evidence.proofs.Answers.{says_no, said_yes, said_no, same_answer}
use Rattle.evidence.proofs.Ranges.{all_below}
use Rattle.records.specs.True.{AllTrue}
use Rattle.verify.proofs.Laws.{no_broken, for_tables, all_targets_true}
use Rattle.verify.proofs.records_true.Goals as goal

pub returns-then-bytes-ne0 : goal.returns-then-bytes-ne0
returns-then-bytes-ne0 c = says_no (λ h. c.if-bytes-ne0.true (no_broken _ h))

pub returns-then-not-all_known : goal.returns-then-not-all_known
returns-then-not-all_known c =
    says_no (λ h. said_no c.all_known.ensures (ap not c.if-not-all_known.true)
    (for_tables c.args.cat.now c.args.bytes.now c.requires.1 (c.from-end.ensures ∙ c.tables.ensures) h))

pub all-requires-clause-callable : goal.all-requires-clause-callable
all-requires-clause-callable c =
    serves_from_Range (λ x q k. search (rules, tests))
    (λ x low high.
    let known : x < tables c.args.cat.now = omega (arith, high, c.from-end.ensures, c.tables.ensures) in
    let accepted = c.requires.0 in
    search rules)

pub returns : goal.returns
returns c =
    let by = all_targets_true c.args.cat.now c.args.bytes.now c.requires.1 c.if-bytes-ne0.false
    (said_yes c.all_known.ensures (ap not c.if-not-all_known.false)) in
    same_answer by.0 by.1
    (all_below _ _ _ _ (λ t. AllTrue c.args.cat.now t (records_of c.args.records)) c.all.ensures.ran
    (λ x q k. search (rules, tests)) (λ x q k. search (rules, tests)) refl)
