-- The answers of `lines::wide::add_wide`.
use Prim.Native.Nat.{ℕ}
use mathlib.Core.Path.{◌≡◌, subst}
use native.Mathlib.Omega.{arith}
use Rattle.lines.specs.Lines.{LineOf, met_at}
use Rattle.lines.proofs.wide.add_wide.Goals as goal

pub loop-k-preserved : goal.loop-k-preserved
loop-k-preserved c = λ bytes o. c.add_if.ensures bytes (c.loop-k.invariant bytes o)

pub returns : goal.returns
returns c = λ bytes o.
    let a = c.args in
    let all : c.loop-k.k ≡ a.keys.members = omega arith in
    subst (λ (k : ℕ). LineOf (met_at a.keys.keys.now bytes a.few k a.x) a.x a.keys.rows c.loop-k.line) all
    (c.loop-k.invariant bytes o)
