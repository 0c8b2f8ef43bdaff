-- The ground that a test of entries finds: none, or 15.
use Rattle.std.specs.Prelude.{ℕ, Bool, true, false, Option, Some, None, List}
use Rattle.model.specs.Refusal.{number, or_else}
use Rattle.model.specs.Entries.{entry_code, later_code, rest_code, entries_code}
use Rattle.model.specs.declared.Entry.{Entry}
use Rattle.model.specs.declared.Refusal.TheVariants.{BadEntry}
use Rattle.entries.specs.declared.rank.Ranked.{Ranked}

abbrev pub bad_unless : Bool → ℕ
bad_unless true = 0
bad_unless false = number BadEntry

-- the entry before, if there is one, without its rank
abbrev pub entry_in : Option Ranked → Option Entry
entry_in None = None
entry_in (Some d) = Some d.it

-- of an entry behind the one before, or with none before
abbrev pub code_after : Option Entry → Entry → ℕ
code_after None e = entry_code e
code_after (Some d) e = or_else (entry_code e) (later_code d e)

-- and of all that are left
abbrev pub codes_after : Option Entry → List Entry → ℕ
codes_after None es = entries_code es
codes_after (Some d) es = rest_code d es
