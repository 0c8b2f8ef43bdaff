-- `climb::parent_rows` meets its contract. The invariant: the rows below q are moved.
use Prim.Native.Nat.{◌+◌, ◌*◌}
use lib.ListN.{get_or}
use Rattle.model.specs.Bytes.{u16_at}
use Rattle.filled.specs.Filled.{Filled}
use Rattle.climb.proofs.parent_rows.Given as goal

abbrev pub invariant-loop-q : goal.invariant-loop-q
invariant-loop-q l =
    Filled 0 l.q (λ p. u16_at l.cat (l.o + get_or l.initial.reached p 0 * l.width)) l.initial.reached l.reached
