-- `host::cagberin_pack` meets its contract: no slice is so long that its bytes pass a signed number.
use Rattle.std.proofs.Common.{arith}
use Rattle.host.proofs.Fits.{pack_fits}
use Rattle.host.proofs.cagberin_pack.Goals as goal

pub count_number-requires : goal.count_number-requires
count_number-requires c = pack_fits _ _ _ (omega arith) c.pack-answer.ensures.0
