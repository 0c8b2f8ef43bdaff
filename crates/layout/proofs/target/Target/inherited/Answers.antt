-- `layout::target::Target::inherited` meets its contract.
use native.Mathlib.Omega.{arith}
use Rattle.model.specs.Catalogue.{inherited}
use Rattle.layout.proofs.target.Target.inherited.Goals as goal

pub returns-clause-few : goal.returns-clause-few
unfolding inherited
returns-clause-few c = omega arith
