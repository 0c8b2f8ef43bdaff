-- The answers of `attributes::next_attribute`.
use mathlib.Core.Path.{sym, ◌∙◌}
use native.Mathlib.Omega.{arith}
use Rattle.attributes.proofs.Tags.{cells_ended, cells_one, cells_passed, cells_past}
use Rattle.attributes.proofs.next_attribute.Goals as goal

pub returns-then-x-eq62 : goal.returns-then-x-eq62
returns-then-x-eq62 c =
    let l = c.loop-i in
    sym l.invariant ∙ cells_ended c.args.s.now l.i (omega arith) (omega arith)

pub returns-then-x-eq99 : goal.returns-then-x-eq99
returns-then-x-eq99 c =
    let l = c.loop-i in
    record {
      behind = omega arith;
      within = omega arith;
      same = sym l.invariant ∙ cells_one c.args.s.now l.i (omega arith) (omega arith);
    }

pub loop-i-preserved : goal.loop-i-preserved
loop-i-preserved c =
    let l = c.loop-i in
    sym (cells_passed c.args.s.now l.i (omega arith) c.if-x-eq62.false c.if-x-eq99.false) ∙ l.invariant

pub returns : goal.returns
returns c =
    let l = c.loop-i in
    sym l.invariant ∙ cells_past c.args.s.now l.i (omega arith)
