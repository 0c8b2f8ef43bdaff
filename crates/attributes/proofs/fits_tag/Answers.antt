-- `attributes::fits_tag` meets its contract: by the table, by its parent, or by the columns.
use native.Mathlib.Omega.{arith}
use Rattle.attributes.proofs.Fits.{fits_no_table, fits_no_place, fits_columns}
use Rattle.attributes.proofs.fits_tag.Goals as goal

pub returns-then-tables-table : goal.returns-then-tables-table
returns-then-tables-table c = fits_no_table _ _ _ _ c.number_at-table.ensures (omega (arith, c.tables.ensures))

pub returns-then-parent-up : goal.returns-then-parent-up
returns-then-parent-up c =
    let at = c in
    fits_no_place _ _ _ _ at.number_at-table.ensures (omega (arith, at.tables.ensures))
    c.parent.ensures c.if-parent-up.true

pub returns : goal.returns
returns c =
    let at = c in
    fits_columns _ _ _ _ at.number_at-table.ensures
    (omega (arith, at.tables.ensures)) at.parent.ensures (omega arith)
    c.columns.ensures c.are_below.ensures
