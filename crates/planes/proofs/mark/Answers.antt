-- `planes::mark` meets its contract.
use native.Mathlib.Omega.{arith}
use Rattle.planes.proofs.Marks.{marked_one}
use Rattle.planes.proofs.mark.Goals as goal

pub returns : goal.returns
returns c =
    marked_one c.args.plane.now c.args.x (omega arith) _
    c.power.ensures
