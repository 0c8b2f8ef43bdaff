-- `layout::target::Target::members` meets its contract.
use native.Mathlib.Omega.{arith}
use Rattle.model.proofs.Check.{accepted_visible}
use Rattle.layout.proofs.target.Target.members.Goals as goal

pub returns-clause-few : goal.returns-clause-few
returns-clause-few c =
    let t = c.args.self in
    omega (arith, accepted_visible t.cat.now t.accepted t.table t.known)
