-- `convert::check_empty` meets its contract. The invariant: no table passed has a ground against it.
use Rattle.model.specs.Catalogue.{tables}
use Rattle.model.specs.Convert.{empty_code}
use Rattle.grounds.proofs.First.{NoneBelow}
use Rattle.convert.proofs.check_empty.Given as goal

abbrev pub invariant-loop-table : goal.invariant-loop-table
invariant-loop-table l = NoneBelow (tables l.shape) l.table (empty_code l.shape)
