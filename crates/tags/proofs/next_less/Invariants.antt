-- `tags::next_less` meets its contract: no tag has begun before.
use Rattle.tags.specs.Next.{Passed}
use Rattle.tags.proofs.next_less.Given as goal

abbrev pub invariant-loop-i : goal.invariant-loop-i
invariant-loop-i l = Passed l.s l.p l.i
