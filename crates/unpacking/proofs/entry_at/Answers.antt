-- `unpacking::entry_at` meets its contract.
use mathlib.Core.Path.{sym}
use native.Mathlib.Omega.{arith}
use Rattle.entries.proofs.Entries.{read_past}
use Rattle.unpacking.proofs.Reading.{next_by}
use Rattle.unpacking.proofs.entry_at.Goals as goal

pub returns-then-entries_in-i : goal.returns-then-entries_in-i
returns-then-entries_in-i c = sym (read_past _ _ (omega arith))

pub returns : goal.returns
returns c = next_by c.args.answer _ _ (omega arith) c.first_in.ensures c.entry_from.ensures
