-- The answers of `classes::number`.
use Rattle.classes.proofs.Classes.{numbered_skipped, numbered_more}
use Rattle.classes.proofs.number.Goals as goal
use Rattle.classes.proofs.number.Goals.{then-number_member, else-number_member}

pub loop-k-preserved : goal.loop-k-preserved
loop-k-preserved c =
    let f = c.number_member.ensures in
    elim c.if-number_member.branch [
      | then-number_member w ↦ rw w.few-is (
          numbered_more c.args.keys.short w.power-few.ensures f.only_member (f.member_numbered w.if-number_member.true)
          c.loop-k.invariant)
      | else-number_member w ↦ rw w.few-is (numbered_skipped c.args.keys.short f.only_member c.loop-k.invariant)
    ]
