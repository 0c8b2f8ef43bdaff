-- `grounds::check_rows` meets its contract. The invariant: no row passed has a ground against it.
use Rattle.model.specs.Catalogue.{rows}
use Rattle.model.specs.Check.{row_code}
use Rattle.grounds.proofs.First.{NoneBelow}
use Rattle.grounds.proofs.check_rows.Given as goal

abbrev pub invariant-loop-k : goal.invariant-loop-k
invariant-loop-k l = NoneBelow (rows l.cat l.table) l.k (row_code l.cat l.table)
