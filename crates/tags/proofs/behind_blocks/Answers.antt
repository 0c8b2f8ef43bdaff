-- The answers of `tags::behind_blocks`.
use native.Mathlib.Omega.{arith}
use Rattle.tags.specs.Next.{block_bytes}
use Rattle.tags.proofs.Tags.{passed_none, passed_block}
use Rattle.tags.proofs.behind_blocks.Goals as goal

pub loop-i-init : goal.loop-i-init
loop-i-init c = passed_none _ _

pub loop-i-preserved : goal.loop-i-preserved
loop-i-preserved c =
    passed_block _ _ _ block_bytes c.loop-i.invariant (omega arith)
    (c.less_in.ensures (omega arith))
