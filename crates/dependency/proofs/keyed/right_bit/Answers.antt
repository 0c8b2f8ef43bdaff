use Prim.Native.Nat.{ℕ, ◌^◌}
use mathlib.Core.Path.{ap, ◌∙◌}
use native.Mathlib.Omega.{arith}
use Rattle.dependency.proofs.Members.{right_bit_row, right_bit_column}
use Rattle.dependency.proofs.keyed.right_bit.Goals as goal

-- `dependency::right_bit` meets its contract.

pub returns-then-right-eq-ROW : goal.returns-then-right-eq-ROW
returns-then-right-eq-ROW c =
    let a = c.args in
    c.power.ensures ∙ ap (λ (k : ℕ). 2 ^ k) (right_bit_row a.n a.right c.if-right-eq-ROW.true)

pub power-requires-2 : goal.power-requires-2
power-requires-2 c = omega (arith, c.requires.1 c.if-right-eq-ROW.false)

pub returns : goal.returns
returns c =
    let a = c.args in
    c.power-2.ensures ∙ ap (λ (k : ℕ). 2 ^ k) (right_bit_column a.n a.right c.if-right-eq-ROW.false)
