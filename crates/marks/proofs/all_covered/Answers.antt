-- `marks::all_covered` meets its contract: set by set.
use Prim.Native.Nat.{◌^◌, ◌<◌}
use mathlib.Core.Path.{refl}
use native.Mathlib.Omega.{arith}
use borrow.Author.Rules.{rules}
use borrow.Author.Tests.{tests}
use lib.Pow.{pow_mono}
use Rattle.std.proofs.lemmas.Iterator.{serves_from_Range}
use Rattle.evidence.proofs.Answers.{same_answer}
use Rattle.evidence.proofs.Ranges.{all_below}
use Rattle.marks.specs.Marks.{CoveredBy}
use Rattle.marks.proofs.all_covered.Goals as goal

pub all-requires-clause-callable : goal.all-requires-clause-callable
all-requires-clause-callable c =
    serves_from_Range (λ x q k. search (rules, tests))
    (λ x low high.
    let h = pow_mono {i = c.args.n} {j = c.args.m} (omega arith) in
    let below : x < 2 ^ c.args.m = omega (arith, high, c.power.ensures, h) in
    search rules)

pub returns : goal.returns
returns c =
    let a = c.args in
    same_answer (λ h x l. h x (omega (arith, l, c.power.ensures))) (λ h x l. h x (omega (arith, l, c.power.ensures)))
    (all_below _ _ _ _ (CoveredBy a.backed.now a.keys.now a.lefts.now a.sets.now a.m a.a) c.all.ensures.ran
    (λ x q k. search (rules, tests)) (λ x q k. search (rules, tests)) refl)
