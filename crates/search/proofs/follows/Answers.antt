-- `search::follows` meets its contract.
use mathlib.Core.Path.{◌∙◌}
use Rattle.search.proofs.Laws.{follows_not, follows_strays}
use Rattle.search.proofs.follows.Goals as goal

pub returns-then-leaders-q : goal.returns-then-leaders-q
returns-then-leaders-q c = follows_not _ _ _ _ _ c.if-leaders-q.true

pub returns : goal.returns
returns c = c.strays.ensures ∙ follows_strays _ _ _ _ _ c.if-leaders-q.false
