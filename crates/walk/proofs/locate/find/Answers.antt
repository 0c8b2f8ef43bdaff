-- The answers of `walk::locate::find`.
use Prim.Native.Nat.{ℕ, ◌^◌}
use mathlib.Core.Path.{ap, ◌∙◌}
use native.Mathlib.Omega.{arith}
use Rattle.model.proofs.Check.{accepted_visible}
use Rattle.model.proofs.Listing.{cells_length}
use Rattle.walk.proofs.Places.{passing_none, passing_on, passing_found}
use Rattle.walk.proofs.locate.find.Goals as goal

pub loop-target-init : goal.loop-target-init
loop-target-init c = passing_none _ _ (omega (arith, c.requires.place_bound, cells_length c.args.cat.now))

pub power-here-requires : goal.power-here-requires
power-here-requires c =
    let l = c.loop-target in
    omega (arith, c.visible.ensures, accepted_visible c.args.cat.now c.requires.accepted l.target l.invariant.target)

pub returns-then-index-here : goal.returns-then-index-here
returns-then-index-here c =
    let same = c.power-here.ensures ∙ ap (λ (k : ℕ). 2 ^ k) c.visible.ensures in
    passing_found _ _ _ _ c.loop-target.invariant (omega (arith, same, c.if-index-here.true))

pub loop-target-preserved : goal.loop-target-preserved
loop-target-preserved c =
    let same = c.power-here.ensures ∙ ap (λ (k : ℕ). 2 ^ k) c.visible.ensures in
    passing_on _ _ _ _ c.loop-target.invariant _ same c.if-index-here.false
