-- A reading of a packed list goes entry by entry over the lent file ("Packed list"): the readers that a reading comes
-- to, and what they answer.
use Rattle.std.specs.Prelude.{ℕ, zero, suc, ◌≤◌, ◌≡◌, List, length, Option, None}
use Rattle.std.specs.Borrow.{Bor}
use Rattle.model.specs.Reading.{entries_read, front_read, open_meaning, read_at}
use Rattle.model.specs.Reply.{open_reply}
use Rattle.model.specs.declared.Entry.{Entry}
use Rattle.unpacking.specs.Reading.{entries_by, front_by, after_in}
use Rattle.packed.specs.declared.Reader.{Reader}

-- r is a reader that begins on the file f
pub record Begun (f : Bor (List ℕ)) (r : Reader) : Type 0 where
  pub over : r.list ≡ f
  pub first : r.at ≡ 0
  pub reply : open_reply r.answer ≡ open_meaning f.now

-- what a reader answers: the entry that comes next or none, and the part in front
abbrev pub entry_next : Reader → Option Entry
entry_next r = read_at (entries_by r.answer r.list.now) r.at

abbrev pub front_held : Reader → List ℕ
front_held r = front_by r.answer r.list.now

-- the reader after r, and the one after n steps
abbrev pub advanced : Reader → Reader
advanced r = record { list = r.list; at = after_in (entries_by r.answer r.list.now) r.at; answer = r.answer }

abbrev pub reader_after : ℕ → Reader → Reader
reader_after zero r = r
reader_after (suc n) r = advanced (reader_after n r)

-- a reading from r is that of the file f, at every step: its answers are the entries that may be read, in order, and
-- then none
pub record Reads (f : Bor (List ℕ)) (r : Reader) : Type 0 where
  pub entries : (n : ℕ) → entry_next (reader_after n r) ≡ read_at (entries_read f.now) n
  pub ends : (n : ℕ) → length (entries_read f.now) ≤ n → entry_next (reader_after n r) ≡ None
  pub opened : (n : ℕ) → open_reply (reader_after n r).answer ≡ open_meaning f.now
  pub front : (n : ℕ) → front_held (reader_after n r) ≡ front_read f.now
