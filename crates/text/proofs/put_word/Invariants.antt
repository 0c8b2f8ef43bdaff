use Rattle.std.proofs.Common.{take}
use Rattle.text.specs.Puts.{Puts}
use Rattle.text.proofs.put_word.Given as goal

abbrev pub invariant-loop-x : goal.invariant-loop-x
invariant-loop-x l = Puts (take l.x-index l.word) l.initial.next l.initial.out l.out l.next
