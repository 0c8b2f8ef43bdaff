-- `columns::bit` meets its contract: the lowest bit of what is left is the remainder by two.
use lib.Bits.{and_mask}
use Rattle.columns.proofs.bit.Goals as goal

pub returns : goal.returns
returns c = and_mask _ 1
