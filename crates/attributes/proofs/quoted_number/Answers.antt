-- The answers of `attributes::quoted_number`.
use mathlib.Core.Path.{sym, ap, ◌∙◌}
use native.Mathlib.Omega.{arith}
use Rattle.model.specs.Form.{capped}
use Rattle.attributes.proofs.Tags.{quoted_by, quoted_none}
use Rattle.attributes.proofs.quoted_number.Goals as goal

pub returns-then-is_quote : goal.returns-then-is_quote
returns-then-is_quote c =
    let a = c.args in
    let l = c.loop-i in
    let yes = sym c.is_quote.ensures ∙ c.if-is_quote.true in
    c.number_at.ensures ∙ ap capped (sym (quoted_by a.s.now l.i (omega arith) yes) ∙ l.invariant)

pub loop-i-preserved : goal.loop-i-preserved
loop-i-preserved c =
    let a = c.args in
    let l = c.loop-i in
    let no = sym c.is_quote.ensures ∙ c.if-is_quote.false in
    sym (quoted_by a.s.now l.i (omega arith) no) ∙ l.invariant

pub returns : goal.returns
returns c =
    let l = c.loop-i in
    quoted_none c.args.s.now l.i (omega arith) ∙ ap capped l.invariant
