-- What the checks say of all entries is what they say of those that are left.
use mathlib.Core.Path.{◌≡◌}
use lib.ListN.{drop}
use Rattle.model.specs.Entries.{entries_code}
use Rattle.entries.specs.Verdict.{entry_in, codes_after}
use Rattle.packing.proofs.check_entries.Given as goal

abbrev pub invariant-loop-e : goal.invariant-loop-e
invariant-loop-e l = entries_code l.entries ≡ codes_after (entry_in l.before) (drop l.e-index l.entries)
