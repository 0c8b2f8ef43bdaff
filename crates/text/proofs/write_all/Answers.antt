use Rattle.std.proofs.Common.{subst}
use Rattle.std.proofs.KnownBytes.{Appends-trans}
use Rattle.std.specs.Io.KnownBytes.{Appends}
use Rattle.text.proofs.Fronts.{take_on, within_on}
use Rattle.text.proofs.write_all.Goals as goal

pub loop-done-preserved : goal.loop-done-preserved
loop-done-preserved g c = record {
  within = within_on _ _ _ c.loop-done.invariant.within c.in_ok-taken.ensures.bound;
  taken =
      subst (Appends (g.W.Write.contents c.args.to.now) (g.W.Write.contents c.write.new.self)) (take_on c.loop-done.done c.in_ok-taken.taken c.args.bytes.now)
      (Appends-trans _ _ _ _ _ c.loop-done.invariant.taken c.in_ok-taken.ensures.bytes);
}
