-- `keys::column::fill_words` meets its contract. The invariant: the words of the rows below q are filled.
use Rattle.keys.proofs.Words.{Filling}
use Rattle.keys.proofs.column.fill_words.Given as goal

abbrev pub invariant-loop-q : goal.invariant-loop-q
invariant-loop-q l = Filling l.cat l.from l.width l.reached l.q l.initial.words l.words
