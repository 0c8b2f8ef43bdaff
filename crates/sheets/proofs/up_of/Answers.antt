-- `sheets::up_of` meets its contract: the root's rows have no parent row.
use mathlib.Core.Path.{refl}
use Rattle.columns.proofs.Test.{is_if_eq, is_if_ne}
use Rattle.standing.specs.Tags.{up_of}
use Rattle.sheets.proofs.up_of.Goals as goal

pub returns-then-table-eq0 : goal.returns-then-table-eq0
unfolding up_of
returns-then-table-eq0 c = is_if_eq _ c.if-table-eq0.true refl

pub returns : goal.returns
unfolding up_of
returns c = is_if_ne _ c.if-table-eq0.false c.saturating_sub.ensures
