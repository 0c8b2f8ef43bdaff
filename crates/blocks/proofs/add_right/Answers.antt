-- The answers of `blocks::add_right`.
use native.Mathlib.Omega.{arith}
use Rattle.blocks.proofs.Pairs.{adding_more, adding_index, adding_fits}
use Rattle.blocks.proofs.add_right.Goals as goal

pub added-requires : goal.added-requires
added-requires c = (
  adding_index _ _ _ _ _ _ _ _ (omega arith) (omega arith) (omega arith) (omega arith) c.requires.5
      c.loop-j.invariant,
  omega arith,
)

pub overflow_add-words-in-loop-j : goal.overflow_add-words-in-loop-j
overflow_add-words-in-loop-j c = record {
  fits =
      adding_fits _ _ _ _ _ _ _ _ _ _ (omega arith) (omega arith) (omega arith) c.requires.5
      c.loop-j.invariant c.added.ensures;
}

pub loop-j-preserved : goal.loop-j-preserved
loop-j-preserved c =
    adding_more _ _ _ _ _ _ _ _ (omega arith) (omega arith) c.added.ensures c.loop-j.invariant
