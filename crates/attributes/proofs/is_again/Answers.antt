-- `attributes::is_again` meets its contract: by the rest of the tag, or by what is seen.
use mathlib.Core.Path.{refl}
use native.Mathlib.Omega.{arith}
use Rattle.attributes.proofs.Distinct.{noted_high, noted_low}
use Rattle.attributes.proofs.is_again.Goals as goal

pub returns-then-k-ge-COLUMN_BOUND : goal.returns-then-k-ge-COLUMN_BOUND
returns-then-k-ge-COLUMN_BOUND c =
    let a = c.args in
    noted_high a.s.now a.p a.seen.now c.requires c.number_at-k.ensures (omega arith) c.named_again.ensures

pub returns : goal.returns
returns c =
    let a = c.args in
    noted_low a.s.now a.p a.seen.now c.requires c.number_at-k.ensures (omega arith) refl
