-- The answers of `grouping::group`.
use Rattle.grouping.proofs.Grouping.{grouping_begun}
use Rattle.grouping.proofs.group.Goals as goal

pub loop-q-init : goal.loop-q-init
loop-q-init c = grouping_begun _ _ c.requires.leaders_len
