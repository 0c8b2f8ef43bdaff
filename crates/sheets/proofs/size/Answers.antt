-- The answers of `sheets::size`.
use Prim.Native.Nat.{ℕ, ◌+◌, ◌*◌}
use mathlib.Core.Path.{ap, ◌∙◌}
use native.Mathlib.Omega.{arith}
use Rattle.model.proofs.Check.{accepted_tables}
use Rattle.sheets.proofs.Tables.{sizing_begun, sizing_more, sizing_done}
use Rattle.sheets.proofs.size.Goals as goal

pub loop-table-init : goal.loop-table-init
loop-table-init c = sizing_begun _ _

pub size_of-sum-requires : goal.size_of-sum-requires
size_of-sum-requires c =
    let start = c in
    (omega (arith, accepted_tables start.args.shape.now start.requires.0), start.requires.1 _ (omega arith))

pub loop-table-preserved : goal.loop-table-preserved
loop-table-preserved c =
    sizing_more _ _ c.loop-table.invariant (omega arith) c.size_of-sum.ensures.is c.size_of-sum.ensures.small

pub returns : goal.returns
returns c =
    let n = c.tables-n.ensures in
    ap (λ (k : ℕ). c.loop-table.sum + 4 * k + 6) n ∙ sizing_done _ _ c.loop-table.invariant (omega arith)
