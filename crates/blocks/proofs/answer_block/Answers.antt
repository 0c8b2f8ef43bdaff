-- The answers of `blocks::answer_block`.
use native.Mathlib.Omega.{arith}
use Rattle.blocks.proofs.Answers.{answering_begun, answering_more, block_done}
use Rattle.blocks.proofs.answer_block.Goals as goal

pub loop-a-init : goal.loop-a-init
loop-a-init c = answering_begun _ _ _ _ _ _ c.write_lefts-count.ensures

pub loop-a-preserved : goal.loop-a-preserved
loop-a-preserved c =
    answering_more _ _ _ _ _ _ _ (omega arith) (omega arith) c.loop-a.invariant c.answer_right.ensures

pub returns : goal.returns
returns c =
    block_done _ _ _ _ _ _ _ _ (omega arith) (omega arith) c.write_lefts-count.ensures c.loop-a.invariant
