-- The answers of `steps::step`.
use native.Mathlib.Omega.{arith}
use borrow.Author.Rules.{rules}
use Rattle.steps.proofs.Stepping.{stepping_on, step_done, puts, step_put}
use Rattle.steps.proofs.step.Goals as goal

pub loop-v-preserved : goal.loop-v-preserved
loop-v-preserved c =
    let i = c.loop-v.invariant in
    (i.0, stepping_on _ _ _ _ _ i.1 c.in-Some.next c.onward.new.work c.in-Some.ensures (search rules))

pub returns-in-None : goal.returns-in-None
returns-in-None c =
    step_done _ _ _ _ _ c.loop-v.invariant.1 c.onward.new.work c.in-None.ensures _ c.zero_words.ensures (search rules)

pub put-requires : goal.put-requires
put-requires c = puts _ _ _ _ _ c.loop-v.invariant.1 (omega arith)

pub returns : goal.returns
returns c = step_put _ _ _ _ _ c.loop-v.invariant.1 _ c.put.ensures (omega arith)
