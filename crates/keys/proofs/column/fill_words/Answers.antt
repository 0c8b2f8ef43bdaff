-- The answers of `keys::column::fill_words`.
use native.Mathlib.Omega.{arith}
use Rattle.keys.proofs.Words.{filling_more, filling_done}
use Rattle.keys.proofs.column.fill_words.Goals as goal

pub loop-q-preserved : goal.loop-q-preserved
loop-q-preserved c =
    filling_more _ _ _ _ _ _ _ _ _ (omega arith) c.code_at.ensures (omega arith) c.word_of.ensures c.loop-q.invariant

pub returns : goal.returns
returns c = filling_done _ _ _ _ _ _ _ _ c.requires.end_le_row_bound.1 (omega arith) c.loop-q.invariant
