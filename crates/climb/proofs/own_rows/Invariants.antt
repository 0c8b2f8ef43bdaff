-- `climb::own_rows` meets its contract. The invariant: the rows below one are set.
use Rattle.filled.specs.Filled.{Filled}
use Rattle.climb.proofs.own_rows.Given as goal

abbrev pub invariant-loop-row : goal.invariant-loop-row
invariant-loop-row l = Filled 0 l.row (λ p. p) l.initial.reached l.reached
