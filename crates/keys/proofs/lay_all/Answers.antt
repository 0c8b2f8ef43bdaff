-- `keys::lay_all` meets its contract: a mask of all members.
use mathlib.Core.Path.{refl, ap, ◌∙◌}
use Prim.Native.Nat.{ℕ, ◌^◌}
use native.Mathlib.Omega.{arith}
use lib.Pow.{pow_pos}
use Rattle.keys.proofs.Catalogue.{laid_all}
use Rattle.keys.proofs.lay_all.Goals as goal

pub overflow_sub-power : goal.overflow_sub-power
overflow_sub-power c = omega (arith, c.power.ensures, pow_pos c.members.result)

pub returns : goal.returns
returns c =
    let t = c.args.target in
    laid_all t.cat.now t.table _ c.power.result _ t.accepted t.known refl
    (c.power.ensures ∙ ap (λ (n : ℕ). 2 ^ n) c.members.ensures.is) c.lay.ensures.1
