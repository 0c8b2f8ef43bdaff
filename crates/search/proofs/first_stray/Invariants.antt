-- `search::first_stray` meets its contract. The invariants: no row before the present one strays from a lower leader.
use Rattle.search.specs.Strays.{NoneBefore}
use Rattle.search.proofs.first_stray.Given as goal

abbrev pub invariant-loop-p : goal.invariant-loop-p
invariant-loop-p l = NoneBefore l.keys.keys.now l.leaders l.right l.keys.rows l.p 0

abbrev pub invariant-loop-q : goal.invariant-loop-q
invariant-loop-q l = NoneBefore l.keys.keys.now l.leaders l.right l.keys.rows l.p l.q
