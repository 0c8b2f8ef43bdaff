-- `blocks::answer_block` meets its contract. The loop's invariant: the rights below `a` are answered.
use Rattle.blocks.proofs.Answers.{AnsweredBelow}
use Rattle.blocks.proofs.answer_block.Given as goal

abbrev pub invariant-loop-a : goal.invariant-loop-a
invariant-loop-a l = AnsweredBelow l.n l.own l.a l.count l.initial.words l.words
