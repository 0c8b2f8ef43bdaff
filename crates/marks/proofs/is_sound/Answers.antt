-- `marks::is_sound` meets its contract: what is read lies on the planes.
use Rattle.planes.proofs.Marks.{place_inside}
use Rattle.marks.proofs.is_sound.Goals as goal

pub bit_at-requires : goal.bit_at-requires
bit_at-requires c = place_inside c.args.m _ _ c.requires.0 c.requires.4

pub bit_at-requires-then-bit_at-ne0 : goal.bit_at-requires-then-bit_at-ne0
bit_at-requires-then-bit_at-ne0 c = place_inside c.args.m _ _ c.requires.1 c.requires.4
