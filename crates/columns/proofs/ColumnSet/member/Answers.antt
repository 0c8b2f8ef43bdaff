-- `columns::ColumnSet::member` meets its contract.
use Prim.Native.Nat.{ℕ}
use mathlib.Core.Path.{sym, ap, ◌∙◌}
use lib.Dec.{eqb}
use Rattle.columns.proofs.Membership.{member_below, member_past}
use Rattle.columns.proofs.ColumnSet.member.Goals as goal

pub returns-then-k-ge-COLUMN_BOUND : goal.returns-then-k-ge-COLUMN_BOUND
returns-then-k-ge-COLUMN_BOUND c = sym (member_past _ _ c.if-k-ge-COLUMN_BOUND.true)

pub returns : goal.returns
returns c = ap (λ (b : ℕ). eqb b 1) c.bit.ensures ∙ sym (member_below _ _ c.if-k-ge-COLUMN_BOUND.false)
