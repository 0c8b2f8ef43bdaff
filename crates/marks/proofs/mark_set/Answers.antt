-- `marks::mark_set` meets its contract.
use mathlib.Core.Bool.{not}
use mathlib.Core.Path.{ap, refl, ◌∙◌}
use native.Mathlib.Omega.{arith}
use Rattle.model.specs.declared.Evidence.{Evidence}
use Rattle.evidence.proofs.Answers.{said_no, said_yes}
use Rattle.marks.proofs.For.{record_for}
use Rattle.planes.proofs.Marks.{marked_none, marked_for, place_inside}
use Rattle.marks.proofs.mark_set.Goals as goal

pub returns-then-not-is_for : goal.returns-then-not-is_for
returns-then-not-is_for c =
    let is = record_for c.args.records.bytes.now c.args.target c.args.right refl c.is_for.ensures in
    marked_none _ (λ y w. said_no is (ap not c.if-not-is_for.true) w.0)

pub mark-requires : goal.mark-requires
mark-requires c =
    let is = record_for c.args.records.bytes.now c.args.target c.args.right refl c.is_for.ensures in
    let l = c.requires.2 (said_yes is (ap not c.if-not-is_for.false)) in
    let e = ap (λ (e : Evidence). e.set) c.record.ensures in
    place_inside c.args.m _ _ c.requires.0 (omega arith)

pub returns : goal.returns
returns c =
    let is = record_for c.args.records.bytes.now c.args.target c.args.right refl c.is_for.ensures in
    marked_for _ _ _ _ (said_yes is (ap not c.if-not-is_for.false))
    (c.from.ensures ∙ ap (λ (e : Evidence). e.set) c.record.ensures) c.mark.ensures
