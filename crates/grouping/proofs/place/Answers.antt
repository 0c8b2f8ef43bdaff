-- `grouping::place` meets its contract: what the walk finds is the leader, and a row that leads itself becomes the
-- head of its chain.
use native.Mathlib.Omega.{arith}
use Rattle.leaders.proofs.Numbers.{first_same_le}
use Rattle.grouping.proofs.place.Goals as goal

pub overflow_cast-leaders : goal.overflow_cast-leaders
overflow_cast-leaders c = let a = c.args in
    omega (arith, c.leader-p.ensures, first_same_le a.words.now a.q)
