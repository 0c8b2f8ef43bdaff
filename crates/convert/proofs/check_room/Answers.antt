-- `convert::check_room` meets its contract: the counts, then the size.
use mathlib.Core.Path.{sym, ◌∙◌}
use native.Mathlib.Omega.{arith}
use Rattle.model.specs.Convert.{full_code}
use Rattle.model.proofs.Check.{accepted_tables}
use Rattle.model.proofs.Codes.{handed_first}
use Rattle.sheets.proofs.Tables.{size_converted}
use Rattle.convert.proofs.Codes.{too_short, room_enough}
use Rattle.convert.proofs.Whole.{few_counted}
use Rattle.convert.proofs.check_room.Goals as goal

pub returns-in_err-check_counts : goal.returns-in_err-check_counts
unfolding full_code
returns-in_err-check_counts c = handed_first _ _ _ c.from_residual.ensures.1 c.in_err-check_counts.ensures

pub size-requires : goal.size-requires
size-requires c =
    (c.requires.0, few_counted _ _ _ c.requires.0 c.requires.1 (sym c.in_ok-check_counts.ensures))

pub returns-then-room-size : goal.returns-then-room-size
returns-then-room-size c =
    let a = c.args in
    let size = c.size.ensures
    ∙ size_converted a.shape.now a.text.now a.counts.now (accepted_tables a.shape.now c.requires.0) c.requires.1 in
    too_short a.shape.now a.text.now _ (sym c.in_ok-check_counts.ensures) size c.if-room-size.true

pub returns : goal.returns
returns c =
    let a = c.args in
    let size = c.size.ensures
    ∙ size_converted a.shape.now a.text.now a.counts.now (accepted_tables a.shape.now c.requires.0) c.requires.1 in
    room_enough a.shape.now a.text.now _ (sym c.in_ok-check_counts.ensures) size (omega arith)
