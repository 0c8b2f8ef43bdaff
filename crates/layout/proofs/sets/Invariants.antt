-- `layout::sets` meets its contract. The invariant: what is summed and the sets of the tables left make the whole.
use Prim.Native.Nat.{◌+◌, ◌-◌, ◌*◌, ◌^◌, ◌≤◌}
use mathlib.Core.Path.{◌≡◌}
use Rattle.columns.specs.Bound.{column_bound}
use Rattle.model.specs.Catalogue.{tables, sets, sets_from}
use Rattle.layout.proofs.sets.Given as goal

abbrev pub invariant-loop-target : goal.invariant-loop-target
invariant-loop-target l = (l.sum + sets_from l.cat (l.target-end - l.target) l.target ≡ sets l.cat)
    × (l.target-end ≡ tables l.cat)
    × (l.sum ≤ l.target * 2 ^ column_bound)
