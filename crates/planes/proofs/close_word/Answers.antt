-- The answers of `planes::close_word`.
use native.Mathlib.Omega.{arith}
use Rattle.table.proofs.Closing.{close_begun, close_done}
use Rattle.planes.proofs.Bits.{low_power}
use Rattle.planes.proofs.Word.{closing_more, closed_word}
use Rattle.planes.proofs.close_word.Goals as goal

pub loop-k-init : goal.loop-k-init
loop-k-init c = close_begun _ _

pub overflow_shr-w : goal.overflow_shr-w
overflow_shr-w c = low_power _ _ (omega arith) c.power.ensures

pub loop-k-preserved : goal.loop-k-preserved
loop-k-preserved c = closing_more _ _ _ _ _ (omega arith) c.power.ensures c.clear.ensures c.loop-k.invariant

pub returns : goal.returns
returns c = closed_word _ _ (close_done _ _ _ _ (omega arith) c.loop-k.invariant)
