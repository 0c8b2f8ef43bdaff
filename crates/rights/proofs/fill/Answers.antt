-- `rights::fill` meets its contract: the words hold the seeds or the table, whichever they have room for.
use native.Mathlib.Omega.{arith}
use Rattle.layout.specs.Targets.{view_of}
use Rattle.model.proofs.Target.{view_equivalence}
use Rattle.rights.proofs.Held.{narrow_wide, narrow_fits, holds_seeds}
use Rattle.rights.proofs.fill.Goals as goal

pub power-requires : goal.power-requires
power-requires c = let k = c.requires.2.few in omega arith

pub sow-requires : goal.sow-requires
sow-requires c =
    let p = c.requires in
    (narrow_wide _ _ p.1 (omega (arith, c.power.ensures)), omega (arith, narrow_fits _ _ p.1 p.2.few))

pub back_seeds-requires : goal.back_seeds-requires
back_seeds-requires c =
    let p = c.requires in (
      p.0,
      narrow_wide _ _ p.1 (omega (arith, c.power.ensures)),
      omega (arith, narrow_fits _ _ p.1 p.2.few),
    )

pub returns-then-work-power : goal.returns-then-work-power
returns-then-work-power c =
    let p = c.requires in
    let t = c.args.target in
    λ own.
    holds_seeds (view_of t) own _ _ _ p.2.members (narrow_wide _ _ p.1 (omega (arith, c.power.ensures)))
    (omega (arith, narrow_fits c.args.keys.members _ p.1 p.2.few))
    (c.sow.ensures.sown (view_of t) p.2 (view_equivalence t.cat.now t.table))
    c.sow.ensures.n_after
    c.back_seeds.ensures

pub write-requires : goal.write-requires
write-requires c = omega (arith, c.power.ensures)

pub back_table-requires : goal.back_table-requires
back_table-requires c =
    let p = c.requires in (
      p.0,
      omega (arith, c.power.ensures),
      c.write.ensures.0,
      c.write.ensures.1 (view_of c.args.target) p.2,
    )

pub returns : goal.returns
returns c = λ own. c.back_table.ensures
