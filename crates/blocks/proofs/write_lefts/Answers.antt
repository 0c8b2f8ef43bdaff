-- The answers of `blocks::write_lefts`.
use mathlib.Core.Path.{◌≡◌}
use native.Mathlib.Omega.{arith}
use Rattle.std.specs.Prelude.{Some}
use Rattle.columns.specs.Order.{next_of}
use Rattle.columns.specs.Set.{members_of}
use Rattle.blocks.proofs.Pairs.{lefts_more, next_below}
use Rattle.blocks.proofs.write_lefts.Goals as goal

pub loop-j-preserved : goal.loop-j-preserved
loop-j-preserved c =
    let e : next_of c.args.n (members_of c.loop-j.x) ≡ Some c.in-Some.y = cc in
    lefts_more _ _ _ _ _ _ _ _ (omega arith) (omega arith) (next_below _ _ _ (omega arith) e) c.loop-j.invariant
