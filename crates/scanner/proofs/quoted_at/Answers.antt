-- `scanner::quoted_at` meets its contract.
use Prim.Native.Nat.{◌<◌}
use mathlib.Core.Path.{◌≡◌, refl, sym, ap, ◌∙◌}
use native.Mathlib.Omega.{arith}
use lib.ListN.{length}
use Rattle.columns.proofs.Test.{is_if_lt, is_if_not_lt}
use Rattle.model.specs.Bytes.{byte_at}
use Rattle.model.specs.Xml.{is_quote}
use Rattle.model.specs.Form.{expect, quoted_at}
use Rattle.attributes.proofs.Digits.{capped_is, capped_least}
use Rattle.scanner.proofs.Read.{none_read, some_read, none_given, read_at, none_picked, some_picked}
use Rattle.scanner.proofs.Progress.{quote_inside}
use Rattle.scanner.proofs.quoted_at.Goals as goal
use Rattle.scanner.proofs.quoted_at.Goals.{After-is_quote, Else-not-is_quote}

-- whether the byte at p is a quote; if so it stands in the text
quoted : (c : After-is_quote) → let a = c.args in c.is_quote.result ≡ is_quote (byte_at a.s.now a.p)
quoted c = c.is_quote.ensures ∙ ap is_quote c.byte_at-quote.ensures

within : (c : Else-not-is_quote) → let a = c.args in a.p < length a.s.now
within c =
    let a = c.args in
    quote_inside a.s.now a.p (sym (c.is_quote.ensures ∙ ap is_quote c.byte_at-quote.ensures) ∙ c.if-not-is_quote.false)

pub returns-then-not-is_quote-clause-place : goal.returns-then-not-is_quote-clause-place
unfolding quoted_at
returns-then-not-is_quote-clause-place c =
    none_picked _ (quoted (goal.at.returns-then-not-is_quote-clause-place c).After-is_quote) c.if-not-is_quote.true

pub overflow_add-p : goal.overflow_add-p
overflow_add-p c = omega (arith, within (goal.at.overflow_add-p c).Else-not-is_quote)

pub returns-in_err-end-clause-place : goal.returns-in_err-end-clause-place
unfolding quoted_at
returns-in_err-end-clause-place c =
    none_given c.from_residual.ensures
    (some_picked (quoted (goal.at.returns-in_err-end-clause-place c).After-is_quote) c.if-not-is_quote.false
    (none_read _ c.in_err-end.ensures.place))

pub overflow_add-p-2 : goal.overflow_add-p-2
overflow_add-p-2 c = omega (arith, within (goal.at.overflow_add-p-2 c).Else-not-is_quote)

pub returns-then-number_at-ge-MISSING-clause-place : goal.returns-then-number_at-ge-MISSING-clause-place
unfolding quoted_at
returns-then-number_at-ge-MISSING-clause-place c =
    some_picked (quoted (goal.at.returns-then-number_at-ge-MISSING-clause-place c).After-is_quote)
    c.if-not-is_quote.false
    (some_read _ c.in_ok-end.ensures.place c.in_ok-end.ensures.onward
    (is_if_not_lt _ (capped_least c.number_at.ensures (omega arith) c.if-number_at-ge-MISSING.true) refl))

pub returns-clause-place : goal.returns-clause-place
unfolding quoted_at
returns-clause-place c =
    some_picked (quoted (goal.at.returns-clause-place c).After-is_quote) c.if-not-is_quote.false
    (some_read _ c.in_ok-end.ensures.place c.in_ok-end.ensures.onward
    (is_if_lt _ (omega (arith, capped_is c.number_at.ensures c.if-number_at-ge-MISSING.false))
    (read_at (λ x. expect c.args.s.now x c.in_ok-end.end) c.expect.ensures.place c.byte_at-quote.ensures)))
