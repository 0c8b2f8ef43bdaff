-- Packing ("Packed list"): the bytes of a packed list, 15 and 16, the reply and the output afterwards.
use Rattle.std.specs.Prelude.{ℕ, ◌+◌, ◌*◌, List, [], ◌∷◌, ◌++◌, length, drop}
use Rattle.columns.specs.Test.{if_eq, if_lt}
use Rattle.model.specs.Bytes.{bytes4}
use Rattle.model.specs.Refusal.{number, or_else}
use Rattle.model.specs.Reply.{Reply, reply_of}
use Rattle.model.specs.Entries.{entry_bytes, entries_bytes, entries_code}
use Rattle.model.specs.declared.Entry.{Entry}
use Rattle.model.specs.declared.Refusal.TheVariants.{OutputTooShort}

-- the trailer: the number of entries (4 bytes), then the distance from the end of the file back to the first entry (4)
abbrev pub trailer_bytes : ℕ
trailer_bytes = 8

abbrev pub distance_of : ℕ → ℕ
distance_of k = entry_bytes * k + trailer_bytes

-- the packed list: the entries, then the trailer
unfoldable pub packed : List Entry → List ℕ
packed es = entries_bytes es ++ (bytes4 (length es) ++ bytes4 (distance_of (length es)))

-- 16: the output is too short
unfoldable pub output_code : ℕ → ℕ → ℕ
output_code k room = if_lt room (distance_of k) (number OutputTooShort) 0

-- packing: 15, then 16; its reply, and the output afterwards
unfoldable pub pack_code : List Entry → ℕ → ℕ
pack_code es room = or_else (entries_code es) (output_code (length es) room)

unfoldable pub pack_meaning : List Entry → ℕ → Reply
pack_meaning es room = reply_of (pack_code es room) (distance_of (length es) ∷ [])

unfoldable pub output_after : List Entry → List ℕ → List ℕ
output_after es out =
    if_eq (pack_code es (length out)) 0 (packed es ++ drop (distance_of (length es)) out) out
