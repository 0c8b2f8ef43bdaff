-- `columns::ColumnSet::size` meets its contract.
use mathlib.Core.Path.{sym, ap, ◌∙◌}
use Rattle.columns.specs.Set.{size_of}
use Rattle.columns.proofs.Membership.{size_members}
use Rattle.columns.proofs.ColumnSet.size.Goals as goal

pub returns : goal.returns
returns c = ap size_of c.members-x.ensures ∙ sym (size_members _)
