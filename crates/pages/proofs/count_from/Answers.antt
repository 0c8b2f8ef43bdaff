-- The answers of `pages::count_from`.
use native.Mathlib.Omega.{arith}
use borrow.Author.Rules.{rules}
use Rattle.model.specs.Listing.{cells, ordinary}
use Rattle.pages.proofs.Runs.{Ran, ran, filled_answers}
use Rattle.pages.proofs.Whole.{counted_more, counted_few, counted_none}
use Rattle.pages.proofs.count_from.Goals as goal
use Rattle.pages.proofs.count_from.Goals.{After-unwrap-done}

-- what the call in the loop gave
given : (c : After-unwrap-done)
    → Ran (cells (ordinary c.args.cat.now)) c.args.last c.loop-from.from c.unwrap-done.result.place
    c.unwrap-done.result.count c.list_filled-filled.result.run
given c =
    ran c.args.cat.now c.args.last c.requires.listable c.loop-from.from (omega arith) c.loop-from.work (omega arith)
    _ _ _ _ c.list_filled-filled.ensures c.unwrap-done.ensures

pub unwrap-done-requires : goal.unwrap-done-requires
unwrap-done-requires c =
    filled_answers c.args.cat.now c.args.last c.requires.listable c.loop-from.from (omega arith) c.loop-from.work
    (omega arith) _ _ _ c.list_filled-filled.ensures

pub overflow_add-sum : goal.overflow_add-sum
overflow_add-sum c =
    let g = given (goal.at.overflow_add-sum c).After-unwrap-done in
    let more = counted_more c.args.cat.now c.args.last c.requires.listable _ _ _ _ g in
    omega (arith, counted_few c.args.cat.now c.args.last c.requires.listable c.args.place)

pub loop-from-smaller : goal.loop-from-smaller
loop-from-smaller c =
    let g = given (goal.at.loop-from-smaller c).After-unwrap-done in
    omega (arith, g.in_range, g.rises (omega arith))

pub loop-from-preserved : goal.loop-from-preserved
loop-from-preserved c =
    let g = given (goal.at.loop-from-preserved c).After-unwrap-done in
    let more = counted_more c.args.cat.now c.args.last c.requires.listable _ _ _ _ g in
    (search rules, g.in_range, omega arith)

pub returns : goal.returns
returns c =
    omega (
      arith,
      counted_none c.args.cat.now c.args.last c.requires.listable c.loop-from.from (omega arith),
    )
