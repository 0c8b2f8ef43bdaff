-- `search::row_after` meets its contract.
use Rattle.search.proofs.Laws.{after_marked, after_end}
use Rattle.search.proofs.row_after.Goals as goal

pub returns-then-marks-p : goal.returns-then-marks-p
returns-then-marks-p c = after_marked _ _ _ c.if-marks-p.true

pub returns : goal.returns
returns c = after_end _ _ _ c.if-marks-p.false
