-- The answers of `presence::join_cells`.
use Prim.Native.Nat.{ℕ}
use mathlib.Core.Path.{ap, ◌∙◌}
use mathlib.Core.Bool.{not}
use lib.Dec.{eqb}
use Rattle.columns.specs.Test.{pick}
use native.Mathlib.Omega.{arith}
use Rattle.model.specs.Bounds.{missing}
use Rattle.presence.specs.Cells.{present_cell}
use Rattle.presence.proofs.Cells.{test_small, test_pick, joining_begun, joining_more, joining_small}
use Rattle.presence.proofs.join_cells.Goals as goal

pub loop-j-init : goal.loop-j-init
loop-j-init c = joining_begun (present_cell c.args.cat.now c.args.from) c.args.c c.args.set

pub overflow_mul-joined : goal.overflow_mul-joined
overflow_mul-joined c =
    let l = c.loop-j in
    omega (
      arith,
      joining_small (present_cell c.args.cat.now c.args.from) c.args.c c.args.set l.j l.joined (omega arith) l.invariant
          c.requires.1 c.requires.2,
    )

pub overflow_add-joined : goal.overflow_add-joined
overflow_add-joined c =
    let l = c.loop-j in
    omega (
      arith,
      joining_small (present_cell c.args.cat.now c.args.from) c.args.c c.args.set l.j l.joined (omega arith) l.invariant
          c.requires.1 c.requires.2,
      test_small _ c.from.ensures,
    )

pub loop-j-preserved : goal.loop-j-preserved
loop-j-preserved c =
    let l = c.loop-j in
    joining_more (present_cell c.args.cat.now c.args.from) c.args.c c.args.set l.j l.joined _ (omega arith) l.invariant
    (c.from.ensures ∙ test_pick _ ∙ ap (λ (x : ℕ). pick (not (eqb x missing)) 1 0) c.code_at-present.ensures)
