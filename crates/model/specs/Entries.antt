-- Entries as bytes, and 15 over entry records ("Packed list"): an entry's bytes, entries one after the other, and
-- whether entries may stand in a list, packed or not.
use Rattle.std.specs.Prelude.{ℕ, zero, suc, ◌+◌, List, [], ◌∷◌, ◌++◌}
use Rattle.columns.specs.Bound.{column_bound}
use Rattle.columns.specs.Set.{member_of}
use Rattle.columns.specs.Test.{if_eq, if_le, pick}
use Rattle.model.specs.Bounds.{table_bound, row}
use Rattle.model.specs.Bytes.{byte_at, u16_at, bytes2}
use Rattle.model.specs.Refusal.{number, or_else}
use Rattle.model.specs.Entry.{earlier}
use Rattle.model.specs.declared.Entry.{Entry}
use Rattle.model.specs.declared.Refusal.TheVariants.{BadEntry}

-- an entry: target (1 byte), right (1), left (2)
abbrev pub entry_bytes : ℕ
entry_bytes = 4

unfoldable pub bytes_of : Entry → List ℕ
bytes_of e = e.target ∷ e.right ∷ bytes2 e.left

unfoldable pub entry_at : List ℕ → ℕ → Entry
entry_at file i = record { target = byte_at file i; right = byte_at file (i + 1); left = u16_at file (i + 2) }

-- the entries' bytes one after the other
unfoldable pub entries_bytes : List Entry → List ℕ
entries_bytes [] = []
entries_bytes (e ∷ es) = bytes_of e ++ entries_bytes es

-- n entries from byte i on
unfoldable pub entries_from : List ℕ → ℕ → ℕ → List Entry
entries_from file zero i = []
entries_from file (suc n) i = entry_at file i ∷ entries_from file n (i + entry_bytes)

-- 15: the target is over 15, the right is neither below 16 nor the row, or the right is in the left
unfoldable pub entry_code : Entry → ℕ
entry_code e =
    if_le table_bound e.target (number BadEntry)
    (if_eq e.right row 0
    (if_le column_bound e.right (number BadEntry) (pick (member_of e.left e.right) (number BadEntry) 0)))

-- 15: f is not later in listing order than e, the one before
unfoldable pub later_code : Entry → Entry → ℕ
later_code e f = pick (earlier e f) 0 (number BadEntry)

-- entry by entry; e is the one before
unfoldable pub rest_code : Entry → List Entry → ℕ
rest_code e [] = 0
rest_code e (f ∷ fs) = or_else (entry_code f) (or_else (later_code e f) (rest_code f fs))

unfoldable pub entries_code : List Entry → ℕ
entries_code [] = 0
entries_code (e ∷ es) = or_else (entry_code e) (rest_code e es)
