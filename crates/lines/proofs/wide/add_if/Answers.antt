-- `lines::wide::add_if` meets its contract.
use Rattle.lines.proofs.Lines.{line_joined}
use Rattle.lines.proofs.wide.add_if.Goals as goal

pub returns-then-few-k-eq0 : goal.returns-then-few-k-eq0
returns-then-few-k-eq0 c = λ bytes o.
    line_joined _ _ _ _ _ _ c.requires.0 c.if-few-k-eq0.true c.add_member.ensures o
