-- `planes::close_word` meets its contract. The loop's invariant: the first `k` columns are joined.
use Rattle.table.proofs.Closing.{ClosedBelow}
use Rattle.planes.proofs.Word.{bits}
use Rattle.planes.proofs.close_word.Given as goal

abbrev pub invariant-loop-k : goal.invariant-loop-k
invariant-loop-k l = ClosedBelow 5 l.k (bits l.word) (bits l.w)
