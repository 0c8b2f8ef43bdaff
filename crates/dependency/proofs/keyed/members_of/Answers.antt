use mathlib.Core.Path.{ap, ◌∙◌}
use lib.Bits.{bit_or}
use native.Mathlib.Omega.{arith}
use Rattle.dependency.proofs.Members.{members_row, members_column}
use Rattle.dependency.proofs.keyed.members_of.Goals as goal

-- `dependency::members_of` meets its contract.

pub returns-then-right-eq-ROW : goal.returns-then-right-eq-ROW
returns-then-right-eq-ROW c = members_row _ _ c.if-right-eq-ROW.true

pub power-requires : goal.power-requires
power-requires c = omega (arith, c.requires c.if-right-eq-ROW.false)

pub returns : goal.returns
returns c =
    let a = c.args in
    ap (bit_or a.left) c.power.ensures ∙ members_column a.left a.right c.if-right-eq-ROW.false
