-- The answers of `planes::is_minimal`.
use native.Mathlib.Omega.{arith}
use Rattle.table.proofs.Reading.{lowest_part}
use Rattle.planes.proofs.Members.{narrow_more, narrow_failed, not_narrow}
use Rattle.planes.proofs.is_minimal.Goals as goal

pub overflow_sub-x : goal.overflow_sub-x
overflow_sub-x c = lowest_part _ _ (omega arith) c.loop-rest.invariant.within

pub returns-then-bit_at-eq0 : goal.returns-then-bit_at-eq0
returns-then-bit_at-eq0 c =
    not_narrow _ _ _ (narrow_failed _ _ _ _ (omega arith) c.loop-rest.invariant (omega arith))

pub loop-rest-preserved : goal.loop-rest-preserved
loop-rest-preserved c = narrow_more _ _ _ _ (omega arith) c.loop-rest.invariant (omega arith)
