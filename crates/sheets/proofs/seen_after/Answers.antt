-- `sheets::seen_after` meets its contract: one more, or not.
use mathlib.Core.Path.{refl}
use native.Mathlib.Omega.{arith}
use Rattle.columns.proofs.Test.{is_if_eq, is_if_ne}
use Rattle.sheets.specs.Sheets.{seen_after}
use Rattle.sheets.proofs.seen_after.Goals as goal

pub returns-then-n-table : goal.returns-then-n-table
unfolding seen_after
returns-then-n-table c = is_if_eq _ c.if-n-table.true refl

pub returns-then-n-above : goal.returns-then-n-above
unfolding seen_after
returns-then-n-above c =
    is_if_ne _ c.if-n-table.false (is_if_eq _ c.if-n-above.true (omega arith))

pub returns : goal.returns
unfolding seen_after
returns c = is_if_ne _ c.if-n-table.false (is_if_ne _ c.if-n-above.false refl)
