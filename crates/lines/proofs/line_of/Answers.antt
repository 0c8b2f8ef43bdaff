-- `lines::line_of` meets its contract: all members are numbered, or the others are added by keys.
use native.Mathlib.Nat.{le_refl}
use native.Mathlib.Omega.{arith}
use Rattle.lines.proofs.Lines.{line_none, line_all, none_left}
use Rattle.lines.proofs.line_of.Goals as goal

pub returns-then-few-power : goal.returns-then-few-power
returns-then-few-power c =
    line_all _ _ _ _ _ _ 0 c.args.keys.few (omega arith)
    (none_left _ _ _ c.power.ensures c.if-few-power.true) c.requires.numbered
    (line_none _ _ _ _ c.numbered_line.ensures)

pub returns : goal.returns
returns c =
    line_all _ _ _ _ _ _ _ c.args.keys.few (le_refl _) (λ k l z. l) c.requires.numbered
    (c.add_wide.ensures _ (line_none _ _ _ _ c.numbered_line.ensures))
