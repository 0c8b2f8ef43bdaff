-- The answers of `search::first_stray`.
use native.Mathlib.Omega.{arith}
use Rattle.search.proofs.Laws.{before_begun, before_more, follows_is}
use Rattle.search.proofs.first_stray.Goals as goal

pub loop-q-init : goal.loop-q-init
loop-q-init c =
    before_begun _ _ _ _ c.requires.lower_leaders.0 _ _ _ c.requires.marked_below c.row_after-q.ensures (omega arith)
    c.loop-p.invariant

pub returns-then-follows : goal.returns-then-follows
returns-then-follows c =
    let f = follows_is _ _ _ c.loop-q.q _ c.follows.ensures c.if-follows.true in
    (omega arith, f.0, f.1, c.loop-q.invariant)

pub loop-q-preserved : goal.loop-q-preserved
loop-q-preserved c =
    before_more _ _ _ _ c.requires.lower_leaders.0 _ _ c.follows.ensures c.if-follows.false c.loop-q.invariant
