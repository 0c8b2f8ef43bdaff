-- `host::cagberin_read` meets its contract: no run is so long that its records pass a signed number.
use mathlib.Core.Path.{sym, ◌∙◌}
use Rattle.std.proofs.Common.{arith}
use Rattle.numbers.proofs.Numbers.{read_as_packed}
use Rattle.host.proofs.Fits.{read_fits}
use Rattle.host.proofs.cagberin_read.Goals as goal

pub count_number-requires : goal.count_number-requires
count_number-requires c = read_fits _ _ _ _ (omega arith) (sym (read_as_packed _) ∙ c.read-answer.ensures.0)
