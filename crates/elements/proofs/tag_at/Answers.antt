-- `elements::tag_at` meets its contract.
use native.Mathlib.Omega.{arith}
use Rattle.model.specs.Form.{tag_at}
use Rattle.scanner.proofs.Read.{none_read, some_read, none_given, none_picked, some_picked}
use Rattle.scanner.proofs.Progress.{skip_low}
use Rattle.elements.proofs.tag_at.Goals as goal

pub returns-in_err-name-clause-place : goal.returns-in_err-name-clause-place
unfolding tag_at
returns-in_err-name-clause-place c =
    none_given c.from_residual.ensures (none_read _ c.in_err-name.ensures.place)

pub returns-in_err-end-clause-place : goal.returns-in_err-end-clause-place
unfolding tag_at
returns-in_err-end-clause-place c =
    none_given c.from_residual-in_err-end.ensures
    (some_read {p = c.args.p} _ c.in_ok-name.ensures.place (omega (arith, c.in_ok-name.ensures.onward))
    (none_read _ c.in_err-end.ensures.place))

pub returns-in_err-last-clause-place : goal.returns-in_err-last-clause-place
unfolding tag_at
returns-in_err-last-clause-place c =
    none_given c.from_residual-in_err-last.ensures
    (some_read {p = c.args.p} _ c.in_ok-name.ensures.place (omega (arith, c.in_ok-name.ensures.onward))
    (some_read _ c.in_ok-end.ensures.place c.in_ok-end.ensures.onward
    (none_read _ c.in_err-last.ensures.place)))

pub returns-then-not-is_distinct-clause-place : goal.returns-then-not-is_distinct-clause-place
unfolding tag_at
returns-then-not-is_distinct-clause-place c =
    some_read {p = c.args.p} _ c.in_ok-name.ensures.place (omega (arith, c.in_ok-name.ensures.onward))
    (some_read _ c.in_ok-end.ensures.place c.in_ok-end.ensures.onward
    (some_read {p = c.args.p} _ c.in_ok-last.ensures.place
    (omega (arith, c.in_ok-end.ensures.onward, c.in_ok-last.ensures.onward))
    (none_picked _ c.is_distinct.ensures c.if-not-is_distinct.true)))

pub returns-clause-place : goal.returns-clause-place
unfolding tag_at
returns-clause-place c =
    some_read {p = c.args.p} _ c.in_ok-name.ensures.place (omega (arith, c.in_ok-name.ensures.onward))
    (some_read _ c.in_ok-end.ensures.place c.in_ok-end.ensures.onward
    (some_read {p = c.args.p} _ c.in_ok-last.ensures.place
    (omega (arith, c.in_ok-end.ensures.onward, c.in_ok-last.ensures.onward))
    (some_picked c.is_distinct.ensures c.if-not-is_distinct.false c.skip.ensures)))

pub returns-clause-onward : goal.returns-clause-onward
returns-clause-onward c =
    omega (
      arith,
      skip_low c.args.s.now c.in_ok-last.last,
      c.in_ok-name.ensures.onward,
      c.in_ok-end.ensures.onward,
      c.in_ok-last.ensures.onward,
      c.skip.ensures,
    )
