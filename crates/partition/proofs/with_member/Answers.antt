-- `partition::with_member` meets its contract.
use Rattle.columns.proofs.Bits.{bit_one}
use Rattle.model.proofs.Truth.{true_is, false_is}
use Rattle.partition.proofs.Rights.{below_added, below_kept}
use Rattle.partition.proofs.with_member.Goals as goal

pub returns-then-not-gives : goal.returns-then-not-gives
returns-then-not-gives c = λ f.
    below_kept _ _ _ _ _ _ f (λ g. false_is c.if-not-gives.true (true_is (c.gives.ensures.1 g)))

pub returns : goal.returns
returns c = λ f.
    below_added _ _ _ _ _ _ f _ c.power.ensures (bit_one _ _ c.if-wanted-a-eq0.false)
    (c.gives.ensures.0 c.if-not-gives.false)
