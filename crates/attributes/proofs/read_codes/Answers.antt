-- The answers of `attributes::read_codes`.
use Rattle.attributes.proofs.Codes.{storing_begun, storing_more, storing_done}
use Rattle.attributes.proofs.read_codes.Goals as goal

pub loop-name-init : goal.loop-name-init
loop-name-init c = storing_begun _ _

pub loop-name-preserved : goal.loop-name-preserved
loop-name-preserved c =
    let a = c.args in
    storing_more a.s.now a.p c.loop-name.invariant c.in-Some.ensures c.number_at.ensures
    c.quoted_number.ensures c.put_code.ensures

pub returns : goal.returns
returns c = storing_done _ _ c.loop-name.invariant c.in_default.ensures
