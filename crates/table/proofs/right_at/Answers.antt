-- `table::right_at` meets its contract.
use mathlib.Core.Path.{refl}
use Rattle.columns.proofs.Test.{is_if_eq, is_if_ne}
use Rattle.model.specs.Rights.{right_at}
use Rattle.table.proofs.right_at.Goals as goal

pub returns-then-k-n : goal.returns-then-k-n
unfolding right_at
returns-then-k-n c = is_if_eq _ c.if-k-n.true refl

pub returns-else-k-n : goal.returns-else-k-n
unfolding right_at
returns-else-k-n c = is_if_ne _ c.if-k-n.false refl
