-- `soundness::target_sound` meets its contract.
use mathlib.Core.Path.{ap}
use mathlib.Core.Bool.{not}
use Prim.Native.Nat.{ℕ, ◌≤◌, ◌<◌}
use mathlib.Core.List.{List}
use mathlib.Core.Path.{sym}
use native.Mathlib.Omega.{arith}
use Rattle.columns.specs.Bound.{column_bound}
use Rattle.model.specs.Catalogue.{tables, visible}
use Rattle.model.specs.Check.{Accepted}
use Rattle.model.specs.Target.{view}
use Rattle.model.proofs.Check.{accepted_visible}
use Rattle.model.proofs.Climb.{inherited_visible}
use Rattle.model.proofs.Target.{view_equivalence}
use Rattle.evidence.proofs.Answers.{says_no, said_yes, said_no, same_answer}
use Rattle.evidence.proofs.Sides.{lefts_narrow}
use Rattle.planes.proofs.Marks.{blank_room, room_kept}
use Rattle.soundness.proofs.Laws.{not_fitting, fitting, fits_narrow}
use borrow.Author.Rules.{rules}
use Rattle.soundness.proofs.target_sound.Goals as goal

-- a target has no more visible columns than the bound
few : (cat : List ℕ) (target : ℕ) → Accepted cat → target < tables cat → visible cat target ≤ column_bound
few cat target accepted bound = accepted_visible cat accepted target bound

pub entries_fit-requires : goal.entries_fit-requires
entries_fit-requires c =
    let f = few c.args.target.cat.now c.args.target.table c.args.target.accepted c.args.target.known in
    omega (arith, f, c.members-n.ensures.is)

pub returns-then-not-entries_fit : goal.returns-then-not-entries_fit
returns-then-not-entries_fit c =
    says_no (not_fitting c.args.target.cat.now c.args.target.table _ _ _ c.members-n.ensures.is
    c.inherited-low.ensures.is (said_no c.entries_fit.ensures (ap not c.if-not-entries_fit.true)))

pub sow-requires : goal.sow-requires
sow-requires c =
    let f = few c.args.target.cat.now c.args.target.table c.args.target.accepted c.args.target.known in
    let m = c.wide-m.ensures in
    let n = c.members-n.ensures.is in
    blank_room _ m.word (m.few (omega (arith, f, n)))

pub backed_plane-requires : goal.backed_plane-requires
backed_plane-requires c =
    let f = few c.args.target.cat.now c.args.target.table c.args.target.accepted c.args.target.known in
    let n = c.members-n.ensures.is in
    let m = c.wide-m.ensures in
    (omega (arith, m.all, n), blank_room _ m.word (m.few (omega (arith, f, n))))

pub close_lefts-requires : goal.close_lefts-requires
close_lefts-requires c =
    let f = few c.args.target.cat.now c.args.target.table c.args.target.accepted c.args.target.known in
    let n = c.members-n.ensures.is in
    let m = c.wide-m.ensures in (
      blank_room _ m.word (m.few (omega (arith, f, n))),
      lefts_narrow _ _ _ _ _ m.all (fits_narrow (said_yes c.entries_fit.ensures (ap not c.if-not-entries_fit.false))),
    )

pub rights_sound-requires : goal.rights_sound-requires
rights_sound-requires c =
    let f = few c.args.target.cat.now c.args.target.table c.args.target.accepted c.args.target.known in
    let n = c.members-n in
    let m = c.wide-m.ensures in
    let b : n.result ≤ column_bound = n.ensures.few in
    let room = blank_room _ m.word (m.few b) in (
      m.all,
      b,
      omega (
        arith,
        inherited_visible c.args.target.cat.now c.args.target.table,
        n.ensures.is,
        c.inherited-low.ensures.is,
      ),
      room_kept c.sow.ensures.0 room,
      room_kept (search rules) room,
      fits_narrow (said_yes c.entries_fit.ensures (ap not c.if-not-entries_fit.false)),
      room_kept (search rules) room,
      c.close_lefts.ensures,
    )

pub returns : goal.returns
returns c =
    let f = few c.args.target.cat.now c.args.target.table c.args.target.accepted c.args.target.known in
    let cat = c.args.target.cat.now in
    let n = c.members-n.ensures.is in
    let low = c.inherited-low.ensures.is in
    let by = fitting cat c.args.target.table _ _ _ n low c.args.target.known (omega (arith, f, n))
    (omega (arith, inherited_visible cat c.args.target.table, n, low))
    (said_yes c.entries_fit.ensures (ap not c.if-not-entries_fit.false)) in
    same_answer by.0 by.1
    (c.rights_sound.ensures (view cat c.args.target.table) (sym n) (view_equivalence cat c.args.target.table)
    c.sow.ensures.1 c.backed_plane.ensures)
