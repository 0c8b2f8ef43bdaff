-- The answers of `attributes::named_again`.
use mathlib.Core.Path.{sym, ap, ◌∙◌}
use mathlib.Core.Bool.{not}
use lib.ListN.{drop}
use Rattle.model.specs.Xml.{is_fresh}
use Rattle.model.specs.Form.{number_in}
use Rattle.attributes.proofs.Tags.{passing_at, passing_done}
use Rattle.attributes.proofs.Distinct.{fresh_by}
use Rattle.attributes.proofs.named_again.Goals as goal

pub returns-then-same_number : goal.returns-then-same_number
returns-then-same_number c =
    let a = c.args in
    let l = c.loop-other in
    let k = number_in (drop a.name a.s.now) in
    ap not
    (sym (fresh_by a.s.now c.in-Some.other k c.same_number.ensures c.if-same_number.true)
    ∙ passing_at (is_fresh k) a.s.now l.q c.in-Some.ensures l.invariant)

pub loop-other-preserved : goal.loop-other-preserved
loop-other-preserved c =
    let a = c.args in
    let l = c.loop-other in
    let k = number_in (drop a.name a.s.now) in
    sym (fresh_by a.s.now c.in-Some.other k c.same_number.ensures c.if-same_number.false)
    ∙ passing_at (is_fresh k) a.s.now l.q c.in-Some.ensures l.invariant

pub returns : goal.returns
returns c =
    let a = c.args in
    let l = c.loop-other in
    ap not (passing_done (is_fresh (number_in (drop a.name a.s.now))) a.s.now l.q c.in_default.ensures l.invariant)
