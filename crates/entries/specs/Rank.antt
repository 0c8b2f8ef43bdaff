-- An entry's rank, listing order as one number: the target, the size of the left side, its number and the right's, each
-- above the next. An entry stands before another exactly if its rank is the lower (`earlier` of src/lib.rt).
use Rattle.std.specs.Prelude.{ℕ, ◌+◌, ◌*◌}
use Rattle.columns.specs.Set.{member_count}
use Rattle.model.specs.declared.Entry.{Entry}

abbrev pub rank_of : Entry → ℕ
rank_of e = ((e.target * 256 + member_count e.left) * 65536 + e.left) * 256 + e.right
