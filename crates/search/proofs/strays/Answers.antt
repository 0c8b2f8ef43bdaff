-- `search::strays` meets its contract: a row strays where it does not agree with its leader.
use mathlib.Core.Path.{ap}
use mathlib.Core.Bool.{not}
use Rattle.search.specs.Strays.{strays}
use Rattle.search.proofs.strays.Goals as goal

pub returns : goal.returns
unfolding strays
returns c = ap not c.agree_right.ensures
