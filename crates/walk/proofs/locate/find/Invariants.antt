-- `walk::find` meets its contract. The invariant: the targets below are passed, and the index is what is left of the
-- place.
use Rattle.model.specs.Listing.{ordinary}
use Rattle.walk.proofs.Places.{Passing}
use Rattle.walk.proofs.locate.find.Given as goal

abbrev pub invariant-loop-target : goal.invariant-loop-target
invariant-loop-target l = Passing (ordinary l.cat) l.place l.target l.index
