-- Reading a packed list behind any bytes ("Packed list"): its trailer, 14 and 15, and what is read of a file that has
-- none of these grounds.
use Rattle.std.specs.Prelude.{ℕ, zero, suc, ◌-◌, List, [], ◌∷◌, length, take, drop, Option, Some, None}
use Rattle.columns.specs.Test.{if_eq, if_lt}
use Rattle.model.specs.Bytes.{u32_at}
use Rattle.model.specs.Refusal.{number, or_else}
use Rattle.model.specs.Reply.{Reply, reply_of}
use Rattle.model.specs.Calls.{run_after}
use Rattle.model.specs.Entries.{entries_from, entries_code}
use Rattle.model.specs.Packing.{trailer_bytes, distance_of}
use Rattle.model.specs.declared.Entry.{Entry}
use Rattle.model.specs.declared.Refusal.TheVariants.{NoList}

-- the trailer's two numbers
unfoldable pub count_in : List ℕ → ℕ
count_in file = u32_at file (length file - trailer_bytes)

unfoldable pub distance_in : List ℕ → ℕ
distance_in file = u32_at file (length file - 4)

-- the entries that a file holds by its trailer, and the part in front of them
unfoldable pub entries_held : List ℕ → List Entry
entries_held file = entries_from file (count_in file) (length file - distance_in file)

unfoldable pub front_of : List ℕ → List ℕ
front_of file = take (length file - distance_in file) file

-- 14: no room for a trailer, the distance is not that of so many entries, or it is above the length
unfoldable pub tail_code : List ℕ → ℕ
tail_code file =
    if_lt (length file) trailer_bytes (number NoList)
    (if_eq (distance_in file) (distance_of (count_in file)) (if_lt (length file) (distance_in file) (number NoList) 0)
    (number NoList))

-- reading: 14, then 15 over all entries; opened, how many entries and how many bytes in front
unfoldable pub read_code : List ℕ → ℕ
read_code file = or_else (tail_code file) (entries_code (entries_held file))

unfoldable pub open_meaning : List ℕ → Reply
open_meaning file = reply_of (read_code file) (count_in file ∷ (length file - distance_in file) ∷ [])

-- what may be read of a file: its entries and the part in front; no entry and no byte where it is refused
unfoldable pub entries_read : List ℕ → List Entry
entries_read file = if_eq (read_code file) 0 (entries_held file) []

unfoldable pub front_read : List ℕ → List ℕ
front_read file = if_eq (read_code file) 0 (front_of file) []

-- reading from an index on into a run: as many entries as it has records, and the run afterwards, its other records
-- untouched
unfoldable pub read_from : List ℕ → ℕ → ℕ → List Entry
read_from file from room = take room (drop from (entries_read file))

unfoldable pub read_meaning : List ℕ → ℕ → ℕ → Reply
read_meaning file from room = reply_of (read_code file) (length (read_from file from room) ∷ [])

unfoldable pub run_read : List ℕ → ℕ → List Entry → List Entry
run_read file from run = run_after (read_code file) (read_from file from (length run)) run

-- the entry at a position of a list, and 'end' behind its last entry
unfoldable pub read_at : List Entry → ℕ → Option Entry
read_at [] i = None
read_at (e ∷ es) zero = Some e
read_at (e ∷ es) (suc i) = read_at es i
