-- The answers of `tags::count_rows`.
use native.Mathlib.Omega.{arith}
use Rattle.tags.proofs.Counts.{counting_begun, counting_more, counting_done}
use Rattle.tags.proofs.count_rows.Goals as goal

pub loop-number-init : goal.loop-number-init
loop-number-init c = counting_begun _

pub count_one-requires : goal.count_one-requires
count_one-requires c =
    let inv = c.loop-number.invariant in
    (inv.many, omega (arith, inv.small c.number_at-n.result, c.in-Some.ensures))

pub loop-number-preserved : goal.loop-number-preserved
loop-number-preserved c =
    let l = c.loop-number in
    counting_more _ l.p _ c.number_at-n.result l.counts _ l.invariant c.in-Some.ensures
    c.number_at-n.ensures c.count_one.ensures

pub returns : goal.returns
returns c = counting_done _ _ _ c.loop-number.invariant c.in_default.ensures
