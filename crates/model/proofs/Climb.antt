-- The climbs from a table to the root, for any bytes: what one step of each says. They count the visible columns,
-- find the table that a column belongs to, and follow a row to the row that it leads to.
use Prim.Native.Nat.{ℕ, zero, suc, ◌+◌, ◌-◌, ◌≤◌, ◌<◌}
use mathlib.Core.Path.{◌≡◌, refl, sym, ap, ◌∙◌}
use mathlib.Core.List.{List}
use native.Mathlib.Omega.{arith}
use Rattle.columns.proofs.Test.{if_eq_yes, if_eq_no, if_lt_yes, if_lt_no}
use Rattle.model.specs.Catalogue.{columns, parent, parent_row, visible, visible_in, inherited}
use Rattle.model.specs.Target.{owner_in, ancestor_in}

-- the count from a table on: it ends at the root, goes on elsewhere, and is 0 where no more tables may be climbed
pub climb_ends : (cat : List ℕ) (n table : ℕ) → 0 < n → table ≡ 0 → visible_in cat n table ≡ columns cat table
unfolding visible_in
climb_ends cat zero table h e = omega arith
climb_ends cat (suc n) table h e =
    omega (arith, if_eq_yes {a = table} {b = 0} {x = 0} (visible_in cat n (parent cat table)) e)

pub climb_goes_on : (cat : List ℕ) (n table : ℕ) → 0 < n → (table ≡ 0 → ⊥)
    → visible_in cat n table ≡ columns cat table + visible_in cat (n - 1) (parent cat table)
unfolding visible_in
climb_goes_on cat zero table h e = omega arith
climb_goes_on cat (suc n) table h e =
    let one_less : n ≡ suc n - 1 = omega arith in
    ap (λ (x : ℕ). columns cat table + x)
    (if_eq_no 0 e ∙ ap (λ (m : ℕ). visible_in cat m (parent cat table)) one_less)

pub climb_over : (cat : List ℕ) (n table : ℕ) → n ≡ 0 → visible_in cat n table ≡ 0
unfolding visible_in
climb_over cat zero table e = refl
climb_over cat (suc n) table e = omega arith

-- the visible columns of a table are the inherited and the own ones
module _ (cat : List ℕ) (table : ℕ) where
  own_visible : columns cat table ≤ visible cat table
  unfolding visible visible_in
  own_visible = omega arith

  pub inherited_own : inherited cat table + columns cat table ≡ visible cat table
  unfolding inherited
  inherited_own = omega (arith, own_visible)

  pub inherited_visible : inherited cat table ≤ visible cat table
  inherited_visible = omega (arith, inherited_own)

-- the table that visible column v belongs to: this one, or the one that it belongs to for the parent
pub owner_here : (cat : List ℕ) (n table v h : ℕ) → h ≡ inherited cat table → h ≤ v → table ≡ owner_in cat n table v
unfolding owner_in
owner_here cat zero table v h e l = refl
owner_here cat (suc n) table v h e l = sym (if_lt_no (owner_in cat n (parent cat table) v) (omega arith))

pub owner_above : (cat : List ℕ) (n table v h : ℕ) → 0 < n → h ≡ inherited cat table → v < h
    → owner_in cat n table v ≡ owner_in cat (n - 1) (parent cat table) v
unfolding owner_in
owner_above cat zero table v h p e l = absurd (omega arith)
owner_above cat (suc n) table v h p e l =
    let one_less : n ≡ suc n - 1 = omega arith in
    if_lt_yes table (omega arith) ∙ ap (λ (m : ℕ). owner_in cat m (parent cat table) v) one_less

pub owner_over : (cat : List ℕ) (n table v : ℕ) → n ≡ 0 → table ≡ owner_in cat n table v
unfolding owner_in
owner_over cat zero table v e = refl
owner_over cat (suc n) table v e = absurd (omega arith)

-- the row of table a that row k leads to: this one, or the one that the parent row leads to
pub ancestor_here : (cat : List ℕ) (a n table k : ℕ) → table ≡ a → k ≡ ancestor_in cat a n table k
unfolding ancestor_in
ancestor_here cat a zero table k e = refl
ancestor_here cat a (suc n) table k e =
    sym (if_eq_yes (ancestor_in cat a n (parent cat table) (parent_row cat table k)) e)

pub ancestor_above : (cat : List ℕ) (a n table k : ℕ) → 0 < n → (table ≡ a → ⊥)
    → ancestor_in cat a n table k ≡ ancestor_in cat a (n - 1) (parent cat table) (parent_row cat table k)
unfolding ancestor_in
ancestor_above cat a zero table k p e = absurd (omega arith)
ancestor_above cat a (suc n) table k p e =
    let one_less : n ≡ suc n - 1 = omega arith in
    if_eq_no k e ∙ ap (λ (m : ℕ). ancestor_in cat a m (parent cat table) (parent_row cat table k)) one_less
