-- `head_page` meets its contract: the head line, the lines of the first run, and what is still to come behind it.
-- Assumes nothing.
use native.Mathlib.Omega.{arith}
use Rattle.model.specs.Listing.{cells, ordinary}
use Rattle.pages.proofs.Runs.{Ran, ran, filled_answers}
use Rattle.pages.proofs.Whole.{paged_head}
use Rattle.pages.proofs.head_page.Goals as goal
use Rattle.pages.proofs.head_page.Goals.{After-unwrap-done}

-- what the call gave
given : (c : After-unwrap-done)
    → Ran (cells (ordinary c.args.cat.now)) c.args.last 0 c.unwrap-done.result.place c.unwrap-done.result.count
    c.list_filled-filled.result.run
given c =
    ran c.args.cat.now c.args.last c.requires.listable 0 (omega arith) c.args.work.now (omega arith) _ _ _ _
    c.list_filled-filled.ensures c.unwrap-done.ensures

pub unwrap-done-requires : goal.unwrap-done-requires
unwrap-done-requires c =
    filled_answers c.args.cat.now c.args.last c.requires.listable 0 (omega arith) c.args.work.now (omega arith) _ _ _
    c.list_filled-filled.ensures

pub count_from-entries-requires-clause-place_le_last : goal.count_from-entries-requires-clause-place_le_last
count_from-entries-requires-clause-place_le_last c =
    (given (goal.at.count_from-entries-requires-clause-place_le_last c).After-unwrap-done).in_range

pub shared_ref_as_front-put_run : goal.shared_ref_as_front-put_run
shared_ref_as_front-put_run c = (given (goal.at.shared_ref_as_front-put_run c).After-unwrap-done).fits

pub returns : goal.returns
returns c =
    paged_head c.args.cat.now c.args.last c.requires.listable _ _ _ _ _
    (given (goal.at.returns c).After-unwrap-done) c.tables.ensures c.count_from-entries.ensures
    c.put_head-at.ensures c.put_run-len.ensures (omega arith)
