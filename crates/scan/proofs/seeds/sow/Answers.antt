-- `scan::sow` meets its contract.
use native.Mathlib.Omega.{arith}
use Rattle.planes.proofs.Backed.{two_planes}
use Rattle.scan.proofs.Seeing.{blank_begun}
use Rattle.scan.proofs.Writing.{sown_among, sown}
use Rattle.scan.proofs.seeds.sow.Goals as goal

pub occurring-requires : goal.occurring-requires
occurring-requires c = blank_begun

pub write_seeds-requires : goal.write_seeds-requires
write_seeds-requires c = (c.requires.0, c.args.keys.few, omega (arith, two_planes c.args.keys.members c.requires.0))

pub returns-clause-sown : goal.returns-clause-sown
returns-clause-sown c =
    sown _ _ c.requires.0 c.power.ensures (sown_among c.occurring.ensures _ c.requires.0 c.write_seeds.ensures)
