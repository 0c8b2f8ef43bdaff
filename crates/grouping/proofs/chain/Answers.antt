-- `grouping::chain` meets its contract: the sum of the two products fits 64 bits, as the two factors together are
-- below 2 ^ 32.
use mathlib.Core.Path.{refl}
use native.Mathlib.Nat.{mod-lt}
use native.Mathlib.Omega.{arith}
use Rattle.grouping.specs.Chains.{chain_of}
use Rattle.grouping.proofs.chain.Goals as goal

pub returns : goal.returns
unfolding chain_of
returns c = (refl, mod-lt _ (omega arith))
