-- `classes::number` meets its contract. The invariant: the members below k are numbered, or left out.
use Rattle.classes.specs.Classes.{Numbered}
use Rattle.classes.proofs.number.Given as goal

abbrev pub invariant-loop-k : goal.invariant-loop-k
invariant-loop-k l = Numbered l.keys.keys.now l.k l.keys.rows l.few l.bytes
