-- `columns::of_no_column` meets its contract.
use Prim.Native.Nat.{suc}
use mathlib.Core.Path.{refl}
use Rattle.columns.specs.Bound.{column_bound}
use Rattle.columns.proofs.Rows.{counts_zero}
use Rattle.columns.proofs.of_no_column.Goals as goal

pub returns : goal.returns
returns c = counts_zero (suc column_bound) refl
