-- The answers of `scan::seeds::write_seeds`.
use Rattle.scan.proofs.Writing.{seed_inside}
use Rattle.scan.proofs.seeds.write_seeds.Goals as goal

pub gathered-requires : goal.gathered-requires
gathered-requires c = seed_inside _ _ _ c.requires.0 c.requires.1 c.power-i-end.ensures c.loop-i-test.true
