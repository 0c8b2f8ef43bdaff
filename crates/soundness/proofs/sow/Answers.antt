-- `soundness::sow` meets its contract.
use Rattle.keys.proofs.Catalogue.{keyed_for}
use Rattle.layout.specs.Targets.{view_of}
use Rattle.soundness.proofs.sow.Goals as goal

pub sow_among-requires : goal.sow_among-requires
sow_among-requires c = (c.requires.word, c.requires.few, c.requires.fits)

pub returns : goal.returns
returns c = (
  c.sow_among.ensures.0,
  c.sow_among.ensures.1 (view_of c.args.target)
      (keyed_for _ c.members-n.ensures.is c.rows-end.ensures.is c.lay_all.ensures),
)
