-- `marks::is_covered` meets its contract: what is read lies on the planes.
use native.Mathlib.Omega.{arith}
use Rattle.planes.proofs.Marks.{place_inside}
use Rattle.marks.proofs.is_covered.Goals as goal

pub bit_at-requires : goal.bit_at-requires
bit_at-requires c = place_inside c.args.m _ _ c.requires.1 (omega (arith, c.mirror-place.ensures))

pub bit_at-requires-else-bit_at-ne0 : goal.bit_at-requires-else-bit_at-ne0
bit_at-requires-else-bit_at-ne0 c = place_inside c.args.m _ _ c.requires.2 (omega (arith, c.mirror-place.ensures))

pub bit_at-requires-else-bit_at-ne0-2 : goal.bit_at-requires-else-bit_at-ne0-2
bit_at-requires-else-bit_at-ne0-2 c = place_inside c.args.m _ _ c.requires.3 (omega arith)

pub bit_at-requires-else-bit_at-ne0-3 : goal.bit_at-requires-else-bit_at-ne0-3
bit_at-requires-else-bit_at-ne0-3 c = place_inside c.args.m _ _ c.requires.0 (omega arith)
