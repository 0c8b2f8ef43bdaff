-- `planes::select` meets its contract: by the mask of a low column, and else the whole word or nothing.
use native.Mathlib.Omega.{arith}
use Rattle.planes.proofs.Word.{selected_low, selected_none, selected_all}
use Rattle.planes.proofs.select.Goals as goal

pub returns-then-a-lt5 : goal.returns-then-a-lt5
returns-then-a-lt5 c = selected_low _ _ _ _ (omega arith) c.clear.ensures

pub returns-then-i-a-eq1 : goal.returns-then-i-a-eq1
returns-then-i-a-eq1 c = selected_none _ _ _ (omega arith) c.if-i-a-eq1.true

pub returns-else-i-a-eq1 : goal.returns-else-i-a-eq1
returns-else-i-a-eq1 c = selected_all _ _ _ (omega arith) c.if-i-a-eq1.false
