-- The answers of `columns::of_size_at`.
use Prim.Native.Nat.{◌-◌, ◌^◌, ◌≤◌, ◌<◌}
use mathlib.Core.Path.{◌≡◌}
use mathlib.Core.List.{[]}
use native.Mathlib.Omega.{arith}
use lib.ListN.{length, get_or}
use lib.Pow.{pow_mono}
use Rattle.columns.specs.Bound.{column_bound}
use Rattle.columns.specs.Order.{of_size}
use Rattle.columns.proofs.Unrank.{Taken, sought_begun, sought_size, sought_without, sought_with}
use Rattle.columns.proofs.Unrank.{sought_found}
use Rattle.columns.proofs.of_size_at.Goals as goal

pub loop-m-init : goal.loop-m-init
loop-m-init c = (c.requires.0, c.requires.1, c.requires.2, sought_begun _ _ _ c.requires.2)

-- no more members than columns
size_le : (c : goal.In-loop-m)
    → c.loop-m.size ≤ column_bound
size_le c = let l = c.loop-m.invariant in omega (arith, l.0, sought_size _ _ _ _ _ _ _ l.3)

pub overflow_cast-c-in-loop-m : goal.overflow_cast-c-in-loop-m
overflow_cast-c-in-loop-m c = omega (arith, size_le c)

pub offset_bounds-rows-size : goal.offset_bounds-rows-size
offset_bounds-rows-size c = omega (arith, size_le c)

pub bounds-rows-size : goal.bounds-rows-size
bounds-rows-size c = omega (arith, size_le c)

-- the number read is right
number : (c : goal.In-loop-m)
    → let l = c.loop-m in
    get_or (get_or c.args.rows.now (l.m - 1) []) l.size 0 ≡ length (of_size (l.m - 1) l.size)
number c = let l = c.loop-m in (l.invariant.1.row (l.m - 1) (omega arith)).numbers l.size

-- the set has the column
taken : (c : goal.Then-c-left)
    → let a = c.args in
    let l = c.loop-m in
    Taken a.n a.k a.index l.m l.size l.left l.set
    (get_or (get_or a.rows.now (l.m - 1) []) l.size 0)
taken c =
    let a = c.args in
    let l = c.loop-m in
    let p : 0 < l.m = omega arith in
    let h : get_or (get_or a.rows.now (l.m - 1) []) l.size 0 ≤ l.left = omega (arith, c.if-c-left.true) in
    sought_with _ _ _ _ _ _ _ _ l.invariant.2 p (number c.before.before) h l.invariant.3

pub overflow_sub-size : goal.overflow_sub-size
overflow_sub-size c = (taken c).some

pub overflow_add-set : goal.overflow_add-set
overflow_add-set c =
    let l = c.loop-m.invariant in
    let b : 2 ^ c.args.n ≤ 2 ^ column_bound =
    pow_mono {j = column_bound} l.0 in
    omega (arith, c.power-set.ensures, (taken c.before).small)

pub loop-m-preserved-then-c-left : goal.loop-m-preserved-then-c-left
loop-m-preserved-then-c-left c =
    let l = c.loop-m.invariant in
    (l.0, l.1, l.2, rw c.power-set.ensures (taken c.before).rest)

pub loop-m-preserved : goal.loop-m-preserved
loop-m-preserved c =
    let l = c.loop-m.invariant in
    let p : 0 < c.loop-m.m = omega arith in (
      l.0,
      l.1,
      l.2,
      sought_without _ _ _ _ _ _ _ p (omega (arith, number c.before.before)) l.3,
    )

pub returns : goal.returns
returns c = sought_found _ _ _ _ _ _ _ (omega arith) c.loop-m.invariant.3
