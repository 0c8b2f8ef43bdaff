-- `next_page` meets its contract: the lines of the run from the place on, and what is still to come behind it.
-- Assumes nothing.
use native.Mathlib.Omega.{arith}
use Rattle.model.specs.Listing.{cells, ordinary}
use Rattle.pages.proofs.Runs.{Ran, ran, filled_answers}
use Rattle.pages.proofs.Whole.{paged_next}
use Rattle.pages.proofs.next_page.Goals as goal
use Rattle.pages.proofs.next_page.Goals.{After-unwrap-done}

-- what the call gave
given : (c : After-unwrap-done)
    → Ran (cells (ordinary c.args.cat.now)) c.args.page.last c.args.page.place c.unwrap-done.result.place
    c.unwrap-done.result.count c.list_filled-filled.result.run
given c =
    ran c.args.cat.now c.args.page.last c.requires.listable c.args.page.place (omega arith) c.args.work.now
    (omega arith) _ _ _ _ c.list_filled-filled.ensures c.unwrap-done.ensures

pub unwrap-done-requires : goal.unwrap-done-requires
unwrap-done-requires c =
    filled_answers c.args.cat.now c.args.page.last c.requires.listable c.args.page.place (omega arith)
    c.args.work.now (omega arith) _ _ _ c.list_filled-filled.ensures

pub shared_ref_as_front-put_run : goal.shared_ref_as_front-put_run
shared_ref_as_front-put_run c = (given (goal.at.shared_ref_as_front-put_run c).After-unwrap-done).fits

pub returns-clause-text : goal.returns-clause-text
returns-clause-text c =
    paged_next c.args.cat.now c.args.page.last c.requires.listable _ _ _ _
    (given (goal.at.returns-clause-text c).After-unwrap-done) c.put_run-end.ensures (omega arith)

pub returns-clause-onward : goal.returns-clause-onward
returns-clause-onward c = (given (goal.at.returns-clause-onward c).After-unwrap-done).rises (omega arith)
