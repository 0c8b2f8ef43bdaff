-- Reading from an index on: the part of a list's entries that a call reads.
use Rattle.std.specs.Prelude.{ℕ, List, take, drop}
use Rattle.model.specs.Entries.{entries_from}
use Rattle.model.specs.declared.Entry.{Entry}

-- of k entries from byte p on, those from an index on that there is room for
abbrev pub part_from : List ℕ → ℕ → ℕ → ℕ → ℕ → List Entry
part_from file k p from room = take room (drop from (entries_from file k p))
