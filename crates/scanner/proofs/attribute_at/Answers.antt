-- `scanner::attribute_at` meets its contract.
use native.Mathlib.Omega.{arith}
use Rattle.model.specs.Xml.{column_letter, equals}
use Rattle.model.specs.Form.{expect, quoted_at, attribute_at}
use Rattle.scanner.proofs.Read.{none_read, some_read, none_given, further, read_at}
use Rattle.scanner.proofs.Progress.{skip_low}
use Rattle.scanner.proofs.attribute_at.Goals as goal

pub returns-in_err-name-clause-place : goal.returns-in_err-name-clause-place
unfolding attribute_at
returns-in_err-name-clause-place c =
    none_given c.from_residual.ensures
    (none_read _ (read_at (expect c.args.s.now column_letter) c.in_err-name.ensures.place c.skip.ensures))

pub returns-in_err-end-clause-place : goal.returns-in_err-end-clause-place
unfolding attribute_at
returns-in_err-end-clause-place c =
    none_given c.from_residual-in_err-end.ensures
    (some_read _ (read_at (expect c.args.s.now column_letter) c.in_ok-name.ensures.place c.skip.ensures)
    c.in_ok-name.ensures.onward
    (none_read _ c.in_err-end.ensures.place))

pub returns-in_err-value-clause-place : goal.returns-in_err-value-clause-place
unfolding attribute_at
returns-in_err-value-clause-place c =
    let s = c.args.s.now in
    none_given c.from_residual-in_err-value.ensures
    (some_read _ (read_at (expect s column_letter) c.in_ok-name.ensures.place c.skip.ensures)
    c.in_ok-name.ensures.onward
    (some_read _ c.in_ok-end.ensures.place c.in_ok-end.ensures.onward
    (none_read _ (read_at (expect s equals) c.in_err-value.ensures.place c.skip-2.ensures))))

pub returns-clause-place : goal.returns-clause-place
unfolding attribute_at
returns-clause-place c =
    let s = c.args.s.now in
    some_read _ (read_at (expect s column_letter) c.in_ok-name.ensures.place c.skip.ensures)
    c.in_ok-name.ensures.onward
    (some_read _ c.in_ok-end.ensures.place c.in_ok-end.ensures.onward
    (some_read _ (read_at (expect s equals) c.in_ok-value.ensures.place c.skip-2.ensures)
    c.in_ok-value.ensures.onward
    (read_at (quoted_at s) c.quoted_at.ensures.place c.skip-3.ensures)))

pub returns-clause-onward : goal.returns-clause-onward
returns-clause-onward c =
    let s = c.args.s.now in
    further _
    (omega (
      arith,
      skip_low s c.args.p,
      skip_low s c.in_ok-end.end,
      skip_low s c.in_ok-value.value,
      c.in_ok-name.ensures.onward,
      c.in_ok-end.ensures.onward,
      c.in_ok-value.ensures.onward,
      c.skip.ensures,
      c.skip-2.ensures,
      c.skip-3.ensures,
    ))
    c.quoted_at.ensures.onward
