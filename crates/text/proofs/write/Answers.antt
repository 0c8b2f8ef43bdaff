use Rattle.std.proofs.Common.{refl, rules, subst}
use Rattle.columns.proofs.Test.{is_if_le, is_if_not_le}
use Rattle.std.proofs.KnownBytes.{Appends-nil}
use Rattle.std.specs.Io.KnownBytes.{Appends}
use Rattle.text.proofs.Fronts.{is_front, no_front}
use Rattle.text.specs.Written.{AppendsFirst}
use Rattle.text.proofs.write.Goals as goal

pub returns-in_err-write_all-clause-torn : goal.returns-in_err-write_all-clause-torn
returns-in_err-write_all-clause-torn g c =
    let torn = subst (AppendsFirst (g.W.Write.contents c.args.to.now) (g.W.Write.contents c.write_all.new.to)) (is_front c.args.n c.args.out.now c.if-n-out.true) c.in_err-write_all.ensures.torn in
    search rules

pub returns-then-n-out-clause-count : goal.returns-then-n-out-clause-count
returns-then-n-out-clause-count g c = is_if_le _ c.if-n-out.true refl

pub returns-then-n-out-clause-whole : goal.returns-then-n-out-clause-whole
returns-then-n-out-clause-whole g c =
    subst (Appends _ _) (is_front c.args.n c.args.out.now c.if-n-out.true) c.in_ok-write_all.ensures.whole

pub returns-clause-count : goal.returns-clause-count
returns-clause-count g c = is_if_not_le _ c.if-n-out.false refl

pub returns-clause-whole : goal.returns-clause-whole
returns-clause-whole g c = subst (Appends _ _) (no_front c.args.n c.args.out.now c.if-n-out.false) (Appends-nil _)
