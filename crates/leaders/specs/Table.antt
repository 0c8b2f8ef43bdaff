-- Keys with the members and the rows that they are laid for, as a view of their own, and right for another view.
use Rattle.std.specs.Prelude.{◌-◌, ◌^◌}
use Rattle.model.specs.View.{View}
use Rattle.leaders.specs.Keys.{key_view, Keyed}
use Rattle.leaders.specs.declared.row_keys.RowKeys.{RowKeys}

abbrev pub view_by : RowKeys → View
view_by t = key_view t.keys.now t.members t.rows

-- on all its members
abbrev pub KeyedBy : View → RowKeys → Type 0
KeyedBy v t = Keyed v (2 ^ t.members - 1) t.members t.rows t.keys.now
