-- `layout::target::Target::rows` meets its contract.
use native.Mathlib.Omega.{arith}
use Rattle.model.proofs.Check.{accepted_rows}
use Rattle.layout.proofs.target.Target.rows.Goals as goal

pub returns-clause-few : goal.returns-clause-few
returns-clause-few c =
    let t = c.args.self in
    omega (arith, accepted_rows t.cat.now t.accepted t.table t.known)
