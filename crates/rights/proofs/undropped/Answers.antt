-- `rights::undropped` meets its contract.
use Rattle.rights.proofs.Kept.{undropped_key, undropped_all}
use Rattle.rights.proofs.undropped.Goals as goal

pub returns-then-minimal-n-eq1 : goal.returns-then-minimal-n-eq1
returns-then-minimal-n-eq1 c = undropped_key _ _ c.if-minimal-n-eq1.true c.power.ensures

pub returns : goal.returns
returns c = undropped_all _ _ c.if-minimal-n-eq1.false
