-- The answers of `scan::seeds::gathered`.
use Prim.Native.Nat.{ℕ, ◌+◌, ◌*◌}
use mathlib.Core.Path.{refl}
use mathlib.Core.Bool.{Bool}
use Rattle.columns.specs.Set.{set_below}
use Rattle.scan.specs.SeenSets.{seen_at}
use Rattle.scan.proofs.Writing.{gathered_more}
use Rattle.scan.proofs.seeds.gathered.Goals as goal
use Rattle.scan.proofs.seeds.gathered.Goals.{then-seen-from, else-seen-from}

pub loop-j-init : goal.loop-j-init
unfolding set_below
loop-j-init c = refl

pub loop-j-preserved : goal.loop-j-preserved
loop-j-preserved c =
    let i = c.args.i in
    let f : ℕ → Bool = λ j. seen_at c.args.seen.now (i * 32 + j) in
    elim c.if-seen-from.branch [
      | then-seen-from w ↦
          gathered_more f _ _ _ _ w.power.ensures (rw w.if-seen-from.true w.w-is) c.loop-j.invariant
      | else-seen-from w ↦ gathered_more f _ _ _ _ refl (rw w.if-seen-from.false w.w-is) c.loop-j.invariant
    ]
