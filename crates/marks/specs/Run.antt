-- The entries of a run, and one by its index.
use Rattle.std.specs.Prelude.{ℕ, ◌+◌, ◌*◌, List}
use Rattle.model.specs.Entries.{entry_bytes, entry_at, entries_from}
use Rattle.model.specs.declared.Entry.{Entry}
use Rattle.marks.specs.declared.run.PackedEntries.{PackedEntries}

abbrev pub entries_of : PackedEntries → List Entry
entries_of r = entries_from r.file.now r.count r.first

abbrev pub entry_of : PackedEntries → ℕ → Entry
entry_of r i = entry_at r.file.now (r.first + entry_bytes * i)
