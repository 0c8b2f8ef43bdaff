-- `convert::check_counts` meets its contract. The invariant: no table passed has a ground against it.
use Rattle.model.specs.Catalogue.{tables}
use Rattle.model.specs.Convert.{tags_in, many_code}
use Rattle.grounds.proofs.First.{NoneBelow}
use Rattle.convert.proofs.check_counts.Given as goal

abbrev pub invariant-loop-table : goal.invariant-loop-table
invariant-loop-table l = NoneBelow (tables l.shape) l.table (many_code (tags_in l.text))
