-- The entry at a position, by an answer of `packed::open`.
use Prim.Native.Nat.{ℕ, ◌+◌, ◌-◌, ◌*◌, ◌<◌}
use mathlib.Core.Path.{◌≡◌}
use native.Mathlib.Omega.{arith}
use lib.ListN.{length}
use Rattle.std.specs.Prelude.{List, Some, Result, Ok, Err}
use Rattle.model.specs.Entries.{entry_bytes, entry_at}
use Rattle.model.specs.Reading.{distance_in, read_at}
use Rattle.model.specs.declared.Entry.{Entry}
use Rattle.model.specs.declared.Opened.{Opened}
use Rattle.model.specs.declared.Refusal.{Refusal}
use Rattle.entries.proofs.Entries.{length_in, reads_next}
use Rattle.unpacking.specs.Reading.{entries_by}

pub next_by : (a : Result Opened Refusal) (file : List ℕ) (i : ℕ) {x : Entry} {p : ℕ} → i < length (entries_by a file)
    → p ≡ length file - distance_in file → x ≡ entry_at file (p + entry_bytes * i)
    → Some x ≡ read_at (entries_by a file) i
unfolding entries_by
next_by (Ok o) file i h q r = reads_next file i (omega (arith, length_in file)) q r
next_by (Err r) file i h q s = absurd (omega arith)
