-- The answers of `columns::count_sets`.
use Prim.Native.Nat.{ℕ}
use mathlib.Core.Path.{subst}
use native.Mathlib.Nat.{le_antisymm}
use native.Mathlib.Numerals.{add-one}
use native.Mathlib.Omega.{arith}
use Rattle.columns.specs.Counts.{CountsUpTo}
use Rattle.columns.proofs.Rows.{rows_begun, rows_more}
use Rattle.columns.proofs.count_sets.Goals as goal

pub loop-i-init : goal.loop-i-init
loop-i-init c = (c.requires.0, rows_begun c.args.rows.now _ c.requires.1 c.of_no_column-none.ensures)

pub with_a_column-requires : goal.with_a_column-requires
with_a_column-requires c = (omega arith, c.loop-i.invariant.1.row _ (omega arith))

pub loop-i-preserved : goal.loop-i-preserved
loop-i-preserved c =
    let l = c.loop-i.invariant in
    (l.0, rw add-one (rows_more _ _ _ (omega arith) l.1 c.with_a_column.ensures))

pub returns : goal.returns
returns c = subst (λ (i : ℕ). CountsUpTo i c.loop-i.rows) (omega arith) c.loop-i.invariant.1
