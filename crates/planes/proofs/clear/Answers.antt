-- `planes::clear` meets its contract.
use borrow.Author.Rules.{rules}
use native.Mathlib.Omega.{arith}
use Rattle.planes.proofs.Bits.{low_power, mask_fits}
use Rattle.planes.proofs.clear.Goals as goal

pub power-requires-2 : goal.power-requires-2
power-requires-2 c = low_power _ _ (omega arith) c.power.ensures

pub overflow_add-result : goal.overflow_add-result
overflow_add-result c =
    let h = mask_fits _ _ (low_power _ _ (omega arith) c.power.ensures) c.power-2.ensures in
    search rules
