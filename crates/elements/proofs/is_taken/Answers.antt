-- `elements::is_taken` meets its contract.
use Rattle.model.specs.Convert.{taken}
use Rattle.elements.proofs.is_taken.Goals as goal

pub returns-then-strict : goal.returns-then-strict
unfolding taken
returns-then-strict c = rw c.if-strict.true c.fits_tag.ensures

pub returns : goal.returns
unfolding taken
returns c = rw c.if-strict.false
