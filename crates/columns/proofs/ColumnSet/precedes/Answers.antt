-- `columns::ColumnSet::precedes` meets its contract.
use mathlib.Core.Path.{ap₂, ◌∙◌}
use Rattle.columns.specs.Set.{size_of}
use Rattle.columns.specs.Order.{precedes_of}
use Rattle.columns.proofs.Test.{pair_below}
use Rattle.columns.proofs.ColumnSet.precedes.Goals as goal

pub returns : goal.returns
unfolding precedes_of
returns c =
    c.lt.ensures ∙ pair_below (size_of c.members-x.result) (size_of c.members-y.result) _ _
    ∙ ap₂ precedes_of c.members-x.ensures c.members-y.ensures
