-- `marks::is_keyless` meets its contract: what is read lies on the plane.
use native.Mathlib.Omega.{arith}
use Rattle.planes.proofs.Marks.{place_inside}
use Rattle.marks.proofs.is_keyless.Goals as goal

pub bit_at-requires : goal.bit_at-requires
bit_at-requires c = place_inside c.args.m _ _ c.requires.0 (omega (arith, c.mirror.ensures))
