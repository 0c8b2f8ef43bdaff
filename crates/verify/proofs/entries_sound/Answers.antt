-- `verify::entries_sound` meets its contract: target by target.
use Prim.Native.Nat.{◌<◌}
use mathlib.Core.Path.{ap, refl, ◌∙◌}
use mathlib.Core.Bool.{not}
use native.Mathlib.Omega.{arith}
use borrow.Author.Rules.{rules}
use borrow.Author.Tests.{tests}
use Rattle.std.proofs.lemmas.Iterator.{serves_from_Range}
use Rattle.model.specs.Catalogue.{tables}
use Rattle.evidence.proofs.Answers.{says_no, said_yes, said_no, same_answer}
use Rattle.evidence.proofs.Ranges.{all_below}
use Rattle.marks.specs.Run.{entries_of}
use Rattle.soundness.specs.Sound.{SoundFor}
use Rattle.verify.proofs.Laws.{entries_known, all_targets_sound}
use Rattle.verify.proofs.entries_sound.Goals as goal

pub returns-then-not-all_known : goal.returns-then-not-all_known
returns-then-not-all_known c =
    says_no (λ h. said_no c.all_known.ensures (ap not c.if-not-all_known.true)
    (entries_known c.args.cat.now _ (c.from-end.ensures ∙ c.tables.ensures) h))

pub all-requires-clause-callable : goal.all-requires-clause-callable
all-requires-clause-callable c =
    serves_from_Range (λ x q k. search (rules, tests))
    (λ x low high.
    let known : x < tables c.args.cat.now = omega (arith, high, c.from-end.ensures, c.tables.ensures) in
    let accepted = c.requires in
    search rules)

pub returns : goal.returns
returns c =
    let by = all_targets_sound c.args.cat.now _ (c.from-end.ensures ∙ c.tables.ensures)
    (said_yes c.all_known.ensures (ap not c.if-not-all_known.false)) in
    same_answer by.0 by.1
    (all_below _ _ _ _ (λ t. SoundFor c.args.cat.now t (entries_of c.args.list)) c.all.ensures.ran
    (λ x q k. search (rules, tests)) (λ x q k. search (rules, tests)) refl)
