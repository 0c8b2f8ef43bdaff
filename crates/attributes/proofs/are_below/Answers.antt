-- The answers of `attributes::are_below`.
use mathlib.Core.Path.{sym, ◌∙◌}
use native.Mathlib.Omega.{arith}
use Rattle.model.specs.Convert.{are_below}
use Rattle.attributes.proofs.Tags.{passing_at, passing_done}
use Rattle.attributes.proofs.Fits.{above, below}
use Rattle.attributes.proofs.are_below.Goals as goal

pub returns-then-c-number_at : goal.returns-then-c-number_at
returns-then-c-number_at c =
    let a = c.args in
    let l = c.loop-name in
    sym (above a.s.now c.in-Some.name a.c c.number_at.ensures (omega arith) (omega arith))
    ∙ passing_at (are_below a.c) a.s.now l.q c.in-Some.ensures l.invariant

pub loop-name-preserved : goal.loop-name-preserved
loop-name-preserved c =
    let a = c.args in
    let l = c.loop-name in
    sym (below a.s.now c.in-Some.name a.c c.number_at.ensures (omega arith) (omega arith))
    ∙ passing_at (are_below a.c) a.s.now l.q c.in-Some.ensures l.invariant

pub returns : goal.returns
unfolding are_below
returns c = passing_done (are_below c.args.c) c.args.s.now c.loop-name.q c.in_default.ensures c.loop-name.invariant
