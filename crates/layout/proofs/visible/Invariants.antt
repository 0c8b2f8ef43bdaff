-- `layout::visible` meets its contract. The invariant: what is counted and what the climb from here counts make the
-- whole.
use Prim.Native.Nat.{◌+◌, ◌-◌, ◌*◌, ◌≤◌}
use mathlib.Core.Path.{◌≡◌}
use Rattle.model.specs.Bounds.{table_bound, no_parent}
use Rattle.model.specs.Catalogue.{visible, visible_in}
use Rattle.layout.proofs.visible.Given as goal

abbrev pub invariant-loop : goal.invariant-loop
invariant-loop l =
    (l.sum + visible_in l.cat (table_bound - l.counter) l.at ≡ visible l.cat l.table) × (l.sum ≤ l.counter * no_parent)
