-- The answers of `columns::with_a_column`.
use Prim.Native.Nat.{◌-◌, ◌^◌, ◌≤◌}
use native.Mathlib.Omega.{arith}
use lib.Pow.{pow_mono}
use Rattle.columns.specs.Bound.{column_bound}
use Rattle.columns.proofs.Pascal.{length_le}
use Rattle.columns.proofs.Rows.{between_begun, between_more, between_done}
use Rattle.columns.proofs.with_a_column.Goals as goal

pub loop-k-init : goal.loop-k-init
loop-k-init c = (c.requires.0, between_begun _ _ c.requires.1)

pub offset_bounds-row-k : goal.offset_bounds-row-k
offset_bounds-row-k c = omega (arith, c.loop-k.invariant.1.inside)

pub bounds-row-k : goal.bounds-row-k
bounds-row-k c = omega (arith, c.loop-k.invariant.1.inside)

pub offset_bounds-row-k-in-loop-k : goal.offset_bounds-row-k-in-loop-k
offset_bounds-row-k-in-loop-k c = omega (arith, c.loop-k.invariant.1.inside)

pub bounds-row-k-in-loop-k : goal.bounds-row-k-in-loop-k
bounds-row-k-in-loop-k c = omega (arith, c.loop-k.invariant.1.inside)

pub overflow_add-row : goal.overflow_add-row
overflow_add-row c =
    let n = c.args.n in
    let k = c.loop-k.k - 1 in
    let b = c.loop-k.invariant.1 in
    let l : 2 ^ n ≤ 2 ^ column_bound = pow_mono {j = column_bound} (omega arith) in
    omega (arith, b.old k (omega arith), b.old (k - 1) (omega arith), length_le n k, length_le n (k - 1))

pub loop-k-preserved : goal.loop-k-preserved
loop-k-preserved c = (c.loop-k.invariant.0, between_more _ _ _ (omega arith) c.loop-k.invariant.1)

pub returns : goal.returns
returns c = between_done _ _ _ c.loop-k.invariant.0 (omega arith) c.loop-k.invariant.1
