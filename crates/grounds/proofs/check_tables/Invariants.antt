-- `grounds::check_tables` meets its contract. The invariant: no table passed has a ground against it.
use Rattle.model.specs.Catalogue.{tables}
use Rattle.model.specs.Check.{table_code}
use Rattle.grounds.proofs.First.{NoneBelow}
use Rattle.grounds.proofs.check_tables.Given as goal

abbrev pub invariant-loop-table : goal.invariant-loop-table
invariant-loop-table l = NoneBelow (tables l.cat) l.table (table_code l.cat)
