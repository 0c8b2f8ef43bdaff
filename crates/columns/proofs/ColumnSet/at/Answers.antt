-- The answers of `columns::ColumnSet::at`.
use Rattle.std.specs.Prelude.{Some}
use Prim.Native.Nat.{ℕ, ◌-◌}
use mathlib.Core.Path.{◌≡◌, refl, sym, ap, ◌∙◌}
use mathlib.Core.List.{[]}
use native.Mathlib.Omega.{arith}
use lib.ListN.{length, get_or}
use Rattle.columns.specs.Set.{set_of}
use Rattle.columns.specs.Order.{of_size, at_of}
use Rattle.columns.proofs.Test.{is_if_le, is_if_not_le}
use Rattle.columns.proofs.Unrank.{passed_none, passed_more, passed_found, passed_all}
use Rattle.columns.proofs.ColumnSet.at.Lts as lts
use Rattle.columns.proofs.ColumnSet.at.Tie as tie
use Rattle.columns.proofs.ColumnSet.at.Reads as reads
use Rattle.columns.proofs.ColumnSet.at.Goals as goal

abbrev In-loop-k : Type 0
In-loop-k = lts.In-loop tie.the-claims reads.Pre reads.Post goal.the-invariant-loop-k goal.the-decreases-loop-k

pub returns-then-n-gt-COLUMN_BOUND : goal.returns-then-n-gt-COLUMN_BOUND
unfolding at_of
returns-then-n-gt-COLUMN_BOUND c = is_if_not_le _ c.if-n-gt-COLUMN_BOUND.true refl

pub count_sets-requires : goal.count_sets-requires
count_sets-requires c = (c.if-n-gt-COLUMN_BOUND.false, refl)

pub loop-k-init : goal.loop-k-init
loop-k-init c = (c.if-n-gt-COLUMN_BOUND.false, c.count_sets.ensures, passed_none _ _)

-- the number read is right
number : (c : In-loop-k) → let n = c.args.n in
    let k = c.loop-k.k in
    get_or (get_or c.count_sets.new.rows n []) k 0 ≡ length (of_size n k)
number c =
    let n = c.args.n in
    (c.loop-k.invariant.1.row n (omega arith)).numbers c.loop-k.k

pub of_size_at-requires : goal.of_size_at-requires
of_size_at-requires c =
    let l = c.loop-k.invariant in
    (l.0, l.1, omega (arith, c.if-left-c.true, number c.before.before.before))

pub returns-then-left-c : goal.returns-then-left-c
unfolding at_of
returns-then-left-c c =
    let l = c.loop-k.invariant in
    is_if_le _ l.0
    (ap (λ (x : ℕ). Some (set_of x)) c.of_size_at.ensures
    ∙ sym (passed_found _ _ _ _ (omega arith)
    (omega (arith, c.if-left-c.true, number c.before.before.before.before)) l.2))

pub loop-k-preserved : goal.loop-k-preserved
loop-k-preserved c =
    let l = c.loop-k.invariant in
    (l.0, l.1, passed_more _ _ _ _ _ c.loop-k-test.true (number c.before.before.before.before) c.if-left-c.false l.2)

pub returns-else-left-c : goal.returns-else-left-c
unfolding at_of
returns-else-left-c c =
    let l = c.loop-k.invariant in
    is_if_le _ l.0
    (sym (passed_all _ _ _ _ (omega arith)
    (passed_more _ _ _ _ _ c.loop-k-test.true (number c.before.before.before) c.if-left-c.false l.2)))
