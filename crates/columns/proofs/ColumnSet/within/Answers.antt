-- `columns::ColumnSet::within` meets its contract.
use mathlib.Core.Path.{sym, ap₂, ◌∙◌}
use Rattle.columns.specs.Set.{within_of}
use Rattle.columns.proofs.Membership.{subset_within}
use Rattle.columns.proofs.ColumnSet.within.Goals as goal

pub returns : goal.returns
unfolding within_of
returns c = ap₂ within_of c.members-x.ensures c.members-y.ensures ∙ sym (subset_within _ _)
