-- `elements::root_end` meets its contract.
use mathlib.Core.Path.{◌∙◌}
use native.Mathlib.Omega.{arith}
use Rattle.scanner.proofs.Read.{none_given, further}
use Rattle.scanner.proofs.Progress.{byte_inside}
use Rattle.elements.proofs.Rest.{rest_empty, rest_none, rest_bad, rest_filled}
use Rattle.elements.proofs.root_end.Goals as goal

pub overflow_add-p : goal.overflow_add-p
overflow_add-p c = omega (arith, byte_inside c.args.s.now c.args.p (λ z. omega (arith, c.byte_at.ensures ∙ z)))

pub returns-then-byte_at-eq47-clause-place : goal.returns-then-byte_at-eq47-clause-place
returns-then-byte_at-eq47-clause-place c =
    rest_empty _ _ _ _ c.byte_at.ensures c.if-byte_at-eq47.true c.expect.ensures.place

pub returns-then-byte_at-eq47-clause-onward : goal.returns-then-byte_at-eq47-clause-onward
returns-then-byte_at-eq47-clause-onward c = further _ (omega arith) c.expect.ensures.onward

pub returns-in_err-inside-clause-place : goal.returns-in_err-inside-clause-place
returns-in_err-inside-clause-place c =
    none_given c.from_residual.ensures
    (rest_none _ _ _ _ c.byte_at.ensures c.if-byte_at-eq47.false c.in_err-inside.ensures.place)

pub returns-in_err-last-clause-place : goal.returns-in_err-last-clause-place
returns-in_err-last-clause-place c =
    none_given c.from_residual-in_err-last.ensures
    (rest_bad _ _ _ _ c.byte_at.ensures c.if-byte_at-eq47.false
    c.in_ok-inside.ensures.place c.in_ok-inside.ensures.onward c.in_err-last.ensures.place)

pub returns-clause-place : goal.returns-clause-place
returns-clause-place c =
    rest_filled _ _ _ _ c.byte_at.ensures c.if-byte_at-eq47.false
    c.in_ok-inside.ensures.place c.in_ok-inside.ensures.onward c.in_ok-last.ensures.place
    c.in_ok-last.ensures.onward c.end_at.ensures.place

pub returns-clause-onward : goal.returns-clause-onward
returns-clause-onward c =
    further _ (omega (arith, c.in_ok-inside.ensures.onward, c.in_ok-last.ensures.onward)) c.end_at.ensures.onward
