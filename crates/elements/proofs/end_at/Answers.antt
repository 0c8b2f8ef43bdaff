-- `elements::end_at` meets its contract.
use native.Mathlib.Omega.{arith}
use Rattle.model.specs.Xml.{greater}
use Rattle.model.specs.Form.{expect, end_at}
use Rattle.scanner.proofs.Read.{none_read, some_read, none_given, further, read_at}
use Rattle.scanner.proofs.Progress.{skip_low}
use Rattle.elements.proofs.end_at.Goals as goal

pub returns-in_err-start-clause-place : goal.returns-in_err-start-clause-place
unfolding end_at
returns-in_err-start-clause-place c =
    none_given c.from_residual.ensures (none_read _ c.in_err-start.ensures.place)

pub returns-in_err-end-clause-place : goal.returns-in_err-end-clause-place
unfolding end_at
returns-in_err-end-clause-place c =
    none_given c.from_residual-in_err-end.ensures
    (some_read {p = c.args.p} _ c.in_ok-start.ensures.place (omega (arith, c.in_ok-start.ensures.onward))
    (none_read _ c.in_err-end.ensures.place))

pub returns-clause-place : goal.returns-clause-place
unfolding end_at
returns-clause-place c =
    some_read {p = c.args.p} _ c.in_ok-start.ensures.place (omega (arith, c.in_ok-start.ensures.onward))
    (some_read {p = c.args.p} _ c.in_ok-end.ensures.place
    (omega (arith, c.in_ok-start.ensures.onward, c.in_ok-end.ensures.onward))
    (read_at (expect c.args.s.now greater) c.expect.ensures.place c.skip.ensures))

pub returns-clause-onward : goal.returns-clause-onward
returns-clause-onward c =
    further _
    (omega (
      arith,
      skip_low c.args.s.now c.in_ok-end.end,
      c.in_ok-start.ensures.onward,
      c.in_ok-end.ensures.onward,
      c.skip.ensures,
    ))
    c.expect.ensures.onward
