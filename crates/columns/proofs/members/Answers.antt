-- `columns::members` meets its contract: the bits of all columns are kept.
use mathlib.Core.Path.{sym, ◌∙◌}
use lib.Bits.{and_mask}
use Rattle.columns.specs.Bound.{column_bound}
use Rattle.columns.proofs.Membership.{members_mod}
use Rattle.columns.proofs.members.Goals as goal

pub returns : goal.returns
returns c = and_mask _ column_bound ∙ sym (members_mod _)
