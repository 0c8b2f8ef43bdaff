-- The answers of `coverage::target_covered`.
use mathlib.Core.Path.{ap}
use mathlib.Core.Bool.{not}
use Prim.Native.Nat.{ℕ, ◌≤◌, ◌<◌}
use mathlib.Core.List.{List}
use mathlib.Core.Path.{sym}
use native.Mathlib.Omega.{arith}
use borrow.Author.Rules.{rules}
use Rattle.columns.specs.Bound.{column_bound}
use Rattle.model.specs.Catalogue.{tables, visible}
use Rattle.model.specs.Check.{Accepted}
use Rattle.model.specs.Target.{view}
use Rattle.model.proofs.Check.{accepted_visible}
use Rattle.model.proofs.Climb.{inherited_visible}
use Rattle.evidence.proofs.Sides.{lefts_narrow}
use Rattle.planes.proofs.Marks.{blank_room, room_kept}
use Rattle.evidence.proofs.Answers.{says_yes, says_no, said_yes, said_no, below_more}
use Rattle.coverage.proofs.Laws.{lefts_within, sets_within, rights_covered_is}
use Rattle.coverage.proofs.target_covered.Goals as goal

-- a target has no more visible columns than the bound
few : (cat : List ℕ) (target : ℕ) → Accepted cat → target < tables cat → visible cat target ≤ column_bound
few cat target accepted bound = accepted_visible cat accepted target bound

pub backed_plane-requires : goal.backed_plane-requires
backed_plane-requires c =
    let f = few c.args.target.cat.now c.args.target.table c.args.target.accepted c.args.target.known in
    let n = c.members-n.ensures.is in
    let m = c.wide-m.ensures in
    (omega (arith, m.all, n), blank_room _ m.word (m.few (omega (arith, f, n))))

pub close_lefts-requires : goal.close_lefts-requires
close_lefts-requires c =
    let f = few c.args.target.cat.now c.args.target.table c.args.target.accepted c.args.target.known in
    let n = c.members-n.ensures.is in
    let m = c.wide-m.ensures in (
      blank_room _ m.word (m.few (omega (arith, f, n))),
      lefts_narrow _ _ _ _ _ m.all (lefts_within c.args.target.cat.now c.args.target.table _ n _ c.requires.0),
    )

pub loop-a-init : goal.loop-a-init
loop-a-init c = λ k l i. absurd (omega arith)

pub right_covered-requires : goal.right_covered-requires
right_covered-requires c =
    let f = few c.args.target.cat.now c.args.target.table c.args.target.accepted c.args.target.known in
    let n = c.members-n.ensures.is in
    let m = c.wide-m.ensures in
    let room = blank_room _ m.word (m.few (omega (arith, f, n))) in (
      m.all,
      omega arith,
      room_kept (search rules) room,
      lefts_within c.args.target.cat.now c.args.target.table _ n _ c.requires.0,
      sets_within c.args.target.cat.now c.args.target.table _ n _ c.requires.1,
      room_kept (search rules) room,
      c.close_lefts.ensures,
    )

pub returns-then-not-right_covered : goal.returns-then-not-right_covered
returns-then-not-right_covered c =
    let all = rights_covered_is c.args.target.cat.now c.args.target.accepted c.args.target.table _ _ c.args.target.known
    c.members-n.ensures.is c.inherited-low.ensures.is _ _ in
    let is = c.right_covered.ensures (view c.args.target.cat.now c.args.target.table) (sym c.members-n.ensures.is)
    c.backed_plane.ensures in
    says_no (λ h. said_no is (ap not c.if-not-right_covered.true) (all.1 h _ (omega arith) (omega arith)))

pub overflow_add-a-end : goal.overflow_add-a-end
overflow_add-a-end c =
    let f = few c.args.target.cat.now c.args.target.table c.args.target.accepted c.args.target.known in
    omega (arith, f, c.members-n.ensures.is)

pub loop-a-preserved : goal.loop-a-preserved
loop-a-preserved c =
    below_more c.loop-a.invariant
    (λ l.
    said_yes (c.right_covered.ensures (view c.args.target.cat.now c.args.target.table)
    (sym c.members-n.ensures.is) c.backed_plane.ensures) (ap not c.if-not-right_covered.false))

pub returns : goal.returns
returns c =
    let all = rights_covered_is c.args.target.cat.now c.args.target.accepted c.args.target.table _ _ c.args.target.known
    c.members-n.ensures.is c.inherited-low.ensures.is _ _ in
    let f = inherited_visible c.args.target.cat.now c.args.target.table in
    says_yes (all.0 (λ a l h. c.loop-a.invariant a (omega (arith, f, c.members-n.ensures.is, c.inherited-low.ensures.is)) l))
