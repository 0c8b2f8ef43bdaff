-- `walk::first` meets its contract.
use native.Mathlib.Omega.{arith}
use Rattle.model.specs.Listing.{ordinary}
use Rattle.model.proofs.Check.{accepted_visible}
use Rattle.model.proofs.Rights.{ordinary_bounded}
use Rattle.walk.proofs.Walks.{first_walk}
use Rattle.walk.proofs.locate.first.Goals as goal

pub set_at-left-requires-clause-n_le_column_bound : goal.set_at-left-requires-clause-n_le_column_bound
set_at-left-requires-clause-n_le_column_bound c =
    let s = c.find-s in
    omega (
      arith,
      c.visible-n.ensures,
      accepted_visible c.args.cat.now c.requires.accepted s.result.target s.ensures.target,
    )

pub returns : goal.returns
returns c =
    let v = c in
    let s = v in
    let cat = s.args.cat.now in
    λ words enough.
    first_walk (ordinary cat) words _ _ _ _ _ _ _ _ _ (ordinary_bounded cat s.requires.accepted) enough s.requires.budget_nonzero
    v.find-s.ensures v.visible-n.ensures c.set_at-left.ensures
