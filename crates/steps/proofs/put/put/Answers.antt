-- `steps::put` meets its contract.
use native.Mathlib.Omega.{arith}
use borrow.Author.Rules.{rules}
use Rattle.rights.specs.Rights.{lowest}
use Rattle.steps.proofs.Putting.{put_power, put_right, put_is}
use Rattle.steps.proofs.put.put.Goals as goal

pub overflow_sub-result : goal.overflow_sub-result
unfolding lowest
overflow_sub-result c =
    let s = c in
    omega (arith, put_power s.args.w s.requires, c.power.ensures)

pub overflow_cast-e-2 : goal.overflow_cast-e-2
unfolding lowest
overflow_cast-e-2 c =
    let s = c in
    let h = put_right s.args.w s.requires _ c.right_at-right.ensures in
    search rules

pub returns : goal.returns
unfolding lowest
returns c =
    let s = c in
    put_is s.args.w s.requires c.right_at-right.ensures c.power.ensures
