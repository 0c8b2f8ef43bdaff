-- `walk::pass_first` meets its contract.
use native.Mathlib.Omega.{arith}
use Rattle.model.specs.Listing.{ordinary}
use Rattle.walk.proofs.Walks.{fresh_target, fresh_left, fresh_passable, passes_by}
use Rattle.walk.proofs.Walks.{entered_fresh, entered_ready, entered_passes}
use borrow.Author.Rules.{rules}
use Rattle.walk.proofs.onward.pass_first.Goals as goal

pub invariant_of-target : goal.invariant_of-target
invariant_of-target c = record {
  accepted = c.requires.accepted;
  known = fresh_target (ordinary c.args.cat.now) c.args.w c.args.work.now c.requires.fresh;
}

pub alone-mask-requires : goal.alone-mask-requires
alone-mask-requires c =
    (fresh_left (ordinary c.args.cat.now) c.args.w c.args.work.now c.requires.fresh, c.requires.fresh.sound.enough)

pub passed-requires : goal.passed-requires
passed-requires c =
    let s = c in
    fresh_passable (ordinary s.args.cat.now) s.args.w s.args.work.now s.requires.fresh _
    c.alone-mask.ensures

pub returns-then-w-eq1 : goal.returns-then-w-eq1
returns-then-w-eq1 c =
    let s = c in
    passes_by (ordinary s.args.cat.now) s.args.w s.args.work.now s.requires.fresh _
    c.alone-mask.ensures _
    (λ some. absurd (omega (arith, c.if-w-eq1.true))) (search rules)
    c.passed.result c.passed.ensures

pub prepare-entered-requires : goal.prepare-entered-requires
prepare-entered-requires c = c.requires.fresh.sound.enough

pub pass-requires : goal.pass-requires
pass-requires c =
    let l = ordinary c.args.cat.now in
    let f = c.requires.fresh in record {
      accepted = c.requires.accepted;
      fresh = entered_fresh l c.args.w c.args.work.now f c.entering-v.ensures _ (search rules);
      ready = entered_ready l c.args.w c.args.work.now f c.entering-v.ensures c.prepare-entered.ensures;
    }

pub returns : goal.returns
returns c =
    entered_passes (ordinary c.args.cat.now) c.args.w c.args.work.now c.requires.fresh c.entering-v.ensures
    c.pass.result c.pass.new.work c.pass.ensures
