-- `lines::part::numbered_line` meets its contract: by the low part alone, or by both.
use Rattle.lines.proofs.Lines.{line_low, line_parts}
use Rattle.lines.proofs.part.numbered_line.Goals as goal

pub returns-then-few-lt256 : goal.returns-then-few-lt256
returns-then-few-lt256 c =
    line_low _ _ _ _ _ c.if-few-lt256.true c.compare_eight.ensures c.join_parts.ensures

pub returns : goal.returns
returns c = line_parts _ _ _ _ _ c.compare_eight.ensures c.compare_eight-2.ensures c.join_parts-2.ensures
