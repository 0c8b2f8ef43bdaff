-- `entries::entries_ok` meets its contract. The loop: what the checks say of all entries is what they say of those that
-- are left.
use mathlib.Core.Path.{◌≡◌}
use Prim.Native.Nat.{◌+◌, ◌-◌, ◌*◌}
use Rattle.model.specs.Entries.{entry_bytes, entries_from, entries_code}
use Rattle.entries.specs.Verdict.{entry_in, codes_after}
use Rattle.entries.proofs.entries_ok.Given as goal

abbrev pub invariant-loop-i : goal.invariant-loop-i
invariant-loop-i l =
    entries_code (entries_from l.file l.count l.from)
    ≡ codes_after (entry_in l.before) (entries_from l.file (l.count - l.i) (l.from + entry_bytes * l.i))
