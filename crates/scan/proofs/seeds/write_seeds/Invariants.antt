-- `scan::write_seeds` meets its contract. The invariant: the words below i are written.
use Rattle.planes.specs.Bits.{plane_word}
use Rattle.filled.specs.Filled.{Filled}
use Rattle.scan.specs.SeenSets.{seen_at}
use Rattle.scan.proofs.seeds.write_seeds.Given as goal

abbrev pub invariant-loop-i : goal.invariant-loop-i
invariant-loop-i l = Filled 0 l.i (plane_word (seen_at l.seen)) l.initial.words l.words
