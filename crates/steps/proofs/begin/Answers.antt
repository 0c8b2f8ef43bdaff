-- `steps::begin` meets its contract.
use mathlib.Core.Path.{sym}
use native.Mathlib.Omega.{arith}
use borrow.Author.Rules.{rules}
use Rattle.std.proofs.lemmas.Result.{err_from_is_err_and}
use Rattle.model.specs.Listing.{ordinary}
use Rattle.model.proofs.Listing.{cells_length}
use Rattle.grounds.proofs.Sound.{check_code_le}
use Rattle.steps.proofs.Begins.{begin_refused, begin_few, begin_past, begin_spent, begin_end}
use Rattle.steps.proofs.Begins.{begin_short, begin_walks}
use Rattle.steps.proofs.begin.Goals as goal
use Rattle.steps.proofs.begin.Goals.{then-budget-eq0-via-then-budget-eq0, then-budget-eq0-via-else-budget-eq0+then-place-last}

pub returns-in_err-check : goal.returns-in_err-check
returns-in_err-check c =
    let p = err_from_is_err_and c.from_residual.result c.from_residual.ensures.1 in
    rw (p.1, p.2)
    (begin_refused _ _ _ _ _ _ _ c.in_err-check.ensures
    (omega (arith, c.in_err-check.ensures, check_code_le c.args.cat.now)))

pub returns-then-work-lt-WORK_BOUND : goal.returns-then-work-lt-WORK_BOUND
returns-then-work-lt-WORK_BOUND c = begin_few _ _ _ _ _ _ (sym c.in_ok-check.ensures) (omega arith)

pub returns-then-last-place : goal.returns-then-last-place
returns-then-last-place c =
    begin_past _ _ _ _ _ _ (search rules) (search rules) (omega (arith, cells_length c.args.cat.now))

pub returns-then-budget-eq0 : goal.returns-then-budget-eq0
returns-then-budget-eq0 c =
    let inside = cells_length c.args.cat.now in
    elim c.then-budget-eq0.branch [
      | then-budget-eq0-via-then-budget-eq0 w ↦
          begin_spent _ _ _ _ _ _ (search rules) (search rules) (omega arith) _ (search rules) (omega arith)
      | then-budget-eq0-via-else-budget-eq0+then-place-last w ↦
          begin_end _ _ _ _ _ _ (search rules) (search rules) (omega arith) _ (search rules) (omega arith)
    ]

pub returns-in-Some : goal.returns-in-Some
returns-in-Some c =
    let g = c.first-w.ensures c.args.work.now (search rules) in
    begin_walks _ (ordinary c.args.cat.now) c.args.place c.args.budget c.args.room c.args.work.now
    (sym c.in_ok-check.ensures) g.fresh.sound.enough c.first-w.result c.args.work.now g c.in-Some.v
    c.pass_first.new.work c.in-Some.ensures (search rules) c.step.result c.step.new.work c.step.ensures

pub returns-in-None : goal.returns-in-None
returns-in-None c =
    let g = c.first-w.ensures c.args.work.now (search rules) in
    begin_short _ (ordinary c.args.cat.now) c.args.place c.args.budget c.args.room c.args.work.now
    (sym c.in_ok-check.ensures) g.fresh.sound.enough c.first-w.result c.args.work.now g c.pass_first.new.work
    c.in-None.ensures (search rules) _ c.zero_words-in-None.ensures
