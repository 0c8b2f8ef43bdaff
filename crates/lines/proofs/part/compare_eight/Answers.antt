-- The answers of `lines::part::compare_eight`.
use native.Mathlib.Omega.{arith}
use mathlib.Core.Path.{◌∙◌}
use Rattle.lines.proofs.Lines.{line_more, part_added}
use Rattle.lines.proofs.part.compare_eight.Goals as goal

pub loop-q-preserved : goal.loop-q-preserved
loop-q-preserved c =
    line_more _ (omega arith) (c.agreeing.ensures ∙ part_added c.comparands-members.ensures _) c.loop-q.invariant
