-- `scan::write_broken` meets its contract. The invariant: the words below s are written.
use Rattle.filled.specs.Filled.{Filled}
use Rattle.scan.specs.SeenSets.{broken_word}
use Rattle.scan.proofs.broken.write_broken.Given as goal

abbrev pub invariant-loop-s : goal.invariant-loop-s
invariant-loop-s l = Filled 0 l.s (broken_word l.seen l.n) l.initial.words l.words
