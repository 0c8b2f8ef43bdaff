-- `tags::count_one` meets its contract.
use native.Mathlib.Omega.{arith}
use Rattle.tags.proofs.Counts.{more_none, more_is}
use Rattle.tags.proofs.count_one.Goals as goal

pub returns-then-n-lt-TABLES : goal.returns-then-n-lt-TABLES
returns-then-n-lt-TABLES c = more_is c.args.counts.now _

pub returns-else-n-lt-TABLES : goal.returns-else-n-lt-TABLES
returns-else-n-lt-TABLES c = more_none c.args.counts.now _ (omega arith)
