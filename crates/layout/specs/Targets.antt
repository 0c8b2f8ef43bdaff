-- A target by its parts: its rows and members as a view, how many members it has and how many of them it inherits, and
-- how many rows.
use Rattle.std.specs.Prelude.{ℕ}
use Rattle.model.specs.Catalogue.{visible, inherited, rows}
use Rattle.model.specs.Target.{view}
use Rattle.model.specs.View.{View}
use Rattle.layout.specs.declared.target.Target.{Target}

abbrev pub view_of : Target → View
view_of t = view t.cat.now t.table

abbrev pub members_in : Target → ℕ
members_in t = visible t.cat.now t.table

abbrev pub inherited_in : Target → ℕ
inherited_in t = inherited t.cat.now t.table

abbrev pub rows_in : Target → ℕ
rows_in t = rows t.cat.now t.table
