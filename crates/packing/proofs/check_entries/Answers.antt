-- `packing::check_entries` meets its contract.
use mathlib.Core.Path.{ap, sym, ◌∙◌}
use lib.ListN.{drop_of_length-le}
use Rattle.entries.specs.Verdict.{entry_in, codes_after}
use Rattle.entries.proofs.Checks.{next_bad, next_fine, none_left}
use Rattle.packing.proofs.Writes.{left_in}
use Rattle.packing.proofs.check_entries.Goals as goal

pub returns-then-not-fine_after : goal.returns-then-not-fine_after
returns-then-not-fine_after c =
    next_bad (entry_in c.loop-e.before) _ _ c.if-not-fine_after.ensures
    ∙ sym (c.loop-e.invariant ∙ ap (codes_after (entry_in c.loop-e.before)) (left_in _ _ c.loop-e-test.true c.with_rank-e.ensures))

pub loop-e-preserved : goal.loop-e-preserved
loop-e-preserved c =
    c.loop-e.invariant
    ∙ ap (codes_after (entry_in c.loop-e.before)) (left_in _ _ c.loop-e-test.true c.with_rank-e.ensures)
    ∙ next_fine (entry_in c.loop-e.before) _ _ c.if-not-fine_after.ensures

pub returns : goal.returns
returns c =
    none_left (entry_in c.loop-e.before)
    ∙ sym (c.loop-e.invariant ∙ ap (codes_after (entry_in c.loop-e.before)) (drop_of_length-le _ c.loop-e-test.false))
