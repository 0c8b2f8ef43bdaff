-- What may be read of a file by what `packed::open` answered ("Packed list").
use Rattle.std.specs.Prelude.{ℕ, ◌+◌, List, [], Bool, true, false, length, Result, Ok, Err}
use Rattle.columns.specs.Test.{if_lt, pick}
use Rattle.model.specs.Reading.{entries_held, front_of}
use Rattle.model.specs.declared.Entry.{Entry}
use Rattle.model.specs.declared.Opened.{Opened}
use Rattle.model.specs.declared.Refusal.{Refusal}

abbrev pub is_open : Result Opened Refusal → Bool
is_open (Ok o) = true
is_open (Err r) = false

-- the entries of a file by what `open` answered, and the part in front; none where it was a refusal
unfoldable pub entries_by : Result Opened Refusal → List ℕ → List Entry
entries_by a file = pick (is_open a) (entries_held file) []

unfoldable pub front_by : Result Opened Refusal → List ℕ → List ℕ
front_by a file = pick (is_open a) (front_of file) []

-- the position after i while an entry is there, else i
unfoldable pub after_in : List Entry → ℕ → ℕ
after_in es i = if_lt i (length es) (i + 1) i
