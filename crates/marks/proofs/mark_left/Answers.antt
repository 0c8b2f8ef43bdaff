-- `marks::mark_left` meets its contract.
use mathlib.Core.Bool.{not}
use mathlib.Core.Path.{ap, ◌∙◌}
use native.Mathlib.Omega.{arith}
use Rattle.model.specs.declared.Entry.{Entry}
use Rattle.evidence.proofs.Answers.{said_no, said_yes}
use Rattle.marks.specs.Marks.{mirror}
use Rattle.marks.proofs.For.{entry_for}
use Rattle.planes.proofs.Marks.{marked_none, marked_for, place_inside}
use Rattle.marks.proofs.mark_left.Goals as goal

pub returns-then-not-is_for : goal.returns-then-not-is_for
returns-then-not-is_for c =
    let is = entry_for c.args.list.file.now c.args.target c.args.right c.place.ensures c.is_for.ensures in
    marked_none _ (λ y w. said_no is (ap not c.if-not-is_for.true) w.0)

pub mirror-place-requires : goal.mirror-place-requires
mirror-place-requires c =
    let is = entry_for c.args.list.file.now c.args.target c.args.right c.place.ensures c.is_for.ensures in
    let l = c.requires.2 (said_yes is (ap not c.if-not-is_for.false)) in
    let e = ap (λ (e : Entry). e.left) c.entry.ensures in
    (c.requires.0.few, omega arith)

pub mark-requires : goal.mark-requires
mark-requires c =
    let is = entry_for c.args.list.file.now c.args.target c.args.right c.place.ensures c.is_for.ensures in
    let l = c.requires.2 (said_yes is (ap not c.if-not-is_for.false)) in
    let e = ap (λ (e : Entry). e.left) c.entry.ensures in
    place_inside c.args.m _ _ c.requires.0 (omega (arith, c.mirror-place.ensures))

pub returns : goal.returns
returns c =
    let is = entry_for c.args.list.file.now c.args.target c.args.right c.place.ensures c.is_for.ensures in
    let e = c.from-left.ensures ∙ ap (λ (e : Entry). e.left) c.entry.ensures in
    marked_for _ _ _ _ (said_yes is (ap not c.if-not-is_for.false)) (c.mirror-place.ensures ∙ ap (mirror c.args.m) e)
    c.mark.ensures
