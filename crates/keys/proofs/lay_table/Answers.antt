-- The answers of `keys::lay_table`.
use native.Mathlib.Omega.{arith}
use Rattle.keys.proofs.Tables.{table_begun, table_passed, table_more}
use Rattle.keys.proofs.lay_table.Goals as goal

pub loop-j-init : goal.loop-j-init
loop-j-init c = (omega arith, omega arith, table_begun _ _ _ _ _ _ _ _)

pub loop-j-preserved-then-set-low-eq0 : goal.loop-j-preserved-then-set-low-eq0
loop-j-preserved-then-set-low-eq0 c =
    let l = c.loop-j.invariant in
    (l.0, l.1, table_passed _ _ _ _ _ _ _ _ _ _ c.if-set-low-eq0.true l.2)

pub loop-j-preserved : goal.loop-j-preserved
loop-j-preserved c = (
  c.fill_words.ensures.long,
  c.group.ensures.long,
  table_more _ _ _ _ _ _ _ _ _ _ _ _ _ (omega arith) (omega arith) c.requires.o_bound.2 c.fill_words.ensures
      c.group.ensures c.put_keys.ensures c.loop-j.invariant.2,
)
