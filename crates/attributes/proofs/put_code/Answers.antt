-- `attributes::put_code` meets its contract: a store past the end changes nothing.
use mathlib.Core.Path.{sym}
use native.Mathlib.Omega.{arith}
use lib.Seq.{set_out}
use Rattle.attributes.proofs.put_code.Goals as goal

pub returns-else-column-lt-COLUMN_BOUND : goal.returns-else-column-lt-COLUMN_BOUND
returns-else-column-lt-COLUMN_BOUND c =
    let a = c.args in
    sym (set_out a.codes.now a.column a.code (omega arith))
