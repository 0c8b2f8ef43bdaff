-- `columns::ColumnSet::without` meets its contract.
use Prim.Native.Nat.{◌-◌}
use mathlib.Core.Path.{◌≡◌, sym, ap₂, ◌∙◌}
use mathlib.Core.Bool.{true}
use native.Mathlib.Omega.{arith}
use Rattle.columns.specs.Set.{member_of}
use Rattle.columns.proofs.Bits.{bit_power_le, without_some, member_bit}
use Rattle.columns.proofs.Membership.{bit_of_member, without_absent}
use Rattle.columns.proofs.ColumnSet.without.Goals as goal

-- the column is a member
is_member : (c : goal.Else-not-member) → let a = c.args in member_of a.self.bits a.k ≡ true
is_member c = sym c.member.ensures ∙ c.if-not-member.false

pub returns-then-not-member : goal.returns-then-not-member
returns-then-not-member c =
    c.members-x.ensures
    ∙ sym (without_absent _ _ (sym c.member.ensures ∙ c.if-not-member.true))

pub power-requires : goal.power-requires
power-requires c = omega (arith, (member_bit _ _ (is_member c)).0)

pub overflow_sub-result : goal.overflow_sub-result
overflow_sub-result c =
    omega (
      arith,
      bit_power_le _ _ (bit_of_member _ _ (is_member c.before)),
      c.power.ensures,
      c.members-x.ensures,
    )

pub returns : goal.returns
returns c =
    ap₂ ◌-◌ c.members-x.ensures c.power.ensures
    ∙ sym (without_some _ _ (bit_of_member _ _ (is_member c.before)))
