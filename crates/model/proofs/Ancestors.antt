-- A table and its ancestors in an accepted catalogue: a climb that may go further than to the root comes to the same,
-- so that what a table has is what its parent has and its own columns; on which of them two rows agree, and which of
-- them a row has.
use Prim.Native.Nat.{ℕ, zero, suc, ◌+◌, ◌-◌, ◌≤◌, ◌<◌}
use mathlib.Core.Path.{◌≡◌, refl, sym, ap, ap₂, subst, ◌∙◌}
use mathlib.Core.List.{List}
use mathlib.Core.Bool.{Bool, not}
use native.Mathlib.Decide.{ℕ_discrete, dec_lt}
use native.Mathlib.Omega.{arith}
use lib.Dec.{eqb}
use Rattle.model.specs.Bounds.{table_bound, missing}
use Rattle.model.specs.Catalogue.{tables, columns, parent, parent_row, cell, visible, visible_in, inherited}
use Rattle.model.specs.Check.{Accepted}
use Rattle.model.specs.Target.{owner, owner_in, ancestor, ancestor_in, cells_agree, agree_at, present_at}
use Rattle.model.proofs.Check.{accepted_tables, accepted_parent}
use Rattle.model.proofs.Climb.{climb_ends, climb_goes_on, owner_here, owner_above, owner_over}
use Rattle.model.proofs.Climb.{ancestor_here, ancestor_above}

-- does row x of table a have a cell of visible column v, and what do the rows x and y say of it?
has : List ℕ → ℕ → ℕ → ℕ → Bool
has cat v a x = not (eqb (cell cat a x (v - inherited cat a)) missing)

present_reached : (cat : List ℕ) (table v p a : ℕ) → owner cat table v ≡ a
    → present_at cat table v p ≡ has cat v a (ancestor cat a table p)
unfolding present_at has
present_reached cat table v p a e = ap (λ (a : ℕ). has cat v a (ancestor cat a table p)) e

reached : List ℕ → ℕ → ℕ → ℕ → ℕ → Bool
reached cat v a x y = cells_agree x y (cell cat a x (v - inherited cat a)) (cell cat a y (v - inherited cat a))

agree_reached : (cat : List ℕ) (table v p q a : ℕ) → owner cat table v ≡ a
    → agree_at cat table v p q ≡ reached cat v a (ancestor cat a table p) (ancestor cat a table q)
unfolding agree_at reached
agree_reached cat table v p q a e = ap (λ (a : ℕ). reached cat v a (ancestor cat a table p) (ancestor cat a table q)) e

-- a row has the cell of own column j as it stands there, for any bytes
pub present_own : (cat : List ℕ) (table j p : ℕ)
    → present_at cat table (inherited cat table + j) p ≡ not (eqb (cell cat table p j) missing)
unfolding owner ancestor has
present_own cat table j p =
    let v = inherited cat table + j in
    let e : v - inherited cat table ≡ j = omega arith in
    present_reached cat table v p table
    (sym (owner_here cat table_bound table v (inherited cat table) refl (omega arith)))
    ∙ ap (has cat v table) (sym (ancestor_here cat table table_bound table p refl))
    ∙ ap (λ (j : ℕ). not (eqb (cell cat table p j) missing)) e

-- on own column j, rows agree by their cells there, for any bytes
pub agree_own : (cat : List ℕ) (table j p q : ℕ)
    → agree_at cat table (inherited cat table + j) p q ≡ cells_agree p q (cell cat table p j) (cell cat table q j)
unfolding owner ancestor reached
agree_own cat table j p q =
    let v = inherited cat table + j in
    let e : v - inherited cat table ≡ j = omega arith in
    agree_reached cat table v p q table
    (sym (owner_here cat table_bound table v (inherited cat table) refl (omega arith)))
    ∙ ap₂ (reached cat v table) (sym (ancestor_here cat table table_bound table p refl))
    (sym (ancestor_here cat table table_bound table q refl))
    ∙ ap (λ (j : ℕ). cells_agree p q (cell cat table p j) (cell cat table q j)) e

module _ (cat : List ℕ) (ok : Accepted cat) where
  parent_lower : (table : ℕ) → table < tables cat → (table ≡ 0 → ⊥) → parent cat table < table
  parent_lower table h n = accepted_parent cat ok table h (omega arith)

  -- how many columns are visible does not depend on how far the climb may go beyond the root
  visible_fuel : (n m table : ℕ) → table < n → table < m → table < tables cat
      → visible_in cat n table ≡ visible_in cat m table
  visible_fuel zero m table hn hm h = absurd (omega arith)
  visible_fuel (suc n) m table hn hm h = at (visible_fuel n (m - 1)) (ℕ_discrete table 0)
    where
      at : ((j : ℕ) → j < n → j < m - 1 → j < tables cat → visible_in cat n j ≡ visible_in cat (m - 1) j)
          → Dec (table ≡ 0) → visible_in cat (suc n) table ≡ visible_in cat m table
      at rest (yes e) = climb_ends cat (suc n) table (omega arith) e ∙ sym (climb_ends cat m table (omega arith) e)
      at rest (no e) =
          let l = parent_lower table h e in
          let one_less : suc n - 1 ≡ n = omega arith in
          climb_goes_on cat (suc n) table (omega arith) e
          ∙ ap (λ (k : ℕ). columns cat table + k)
          (ap (λ (k : ℕ). visible_in cat k (parent cat table)) one_less
          ∙ rest (parent cat table) (omega arith) (omega arith) (omega arith))
          ∙ sym (climb_goes_on cat m table (omega arith) e)

  visible_step : (table : ℕ) → table < tables cat → (table ≡ 0 → ⊥)
      → visible cat table ≡ columns cat table + visible cat (parent cat table)
  unfolding visible
  visible_step table h e =
      let l = parent_lower table h e in
      let f = accepted_tables cat ok in
      climb_goes_on cat table_bound table (omega arith) e
      ∙ ap (λ (k : ℕ). columns cat table + k)
      (visible_fuel (table_bound - 1) table_bound (parent cat table) (omega arith) (omega arith) (omega arith))

  visible_root : (table : ℕ) → table ≡ 0 → visible cat table ≡ columns cat table
  unfolding visible
  visible_root table e = climb_ends cat table_bound table (omega arith) e

  pub inherited_root : (table : ℕ) → table ≡ 0 → inherited cat table ≡ 0
  unfolding inherited
  inherited_root table e = omega (arith, visible_root table e)

  pub inherited_step : (table : ℕ) → table < tables cat → (table ≡ 0 → ⊥)
      → inherited cat table ≡ visible cat (parent cat table)
  unfolding inherited
  inherited_step table h e = omega (arith, visible_step table h e)

  not_root : (table v : ℕ) → v < inherited cat table → table ≡ 0 → ⊥
  not_root table v l e = omega (arith, inherited_root table e)

  -- a column belongs to the table or to one below it
  owner_le : (n table v : ℕ) → table < tables cat → owner_in cat n table v ≤ table
  owner_le zero table v h = omega (arith, owner_over cat 0 table v refl)
  owner_le (suc n) table v h = at (owner_le n) (dec_lt v (inherited cat table))
    where
      at : ((j v : ℕ) → j < tables cat → owner_in cat n j v ≤ j)
          → Dec (v < inherited cat table) → owner_in cat (suc n) table v ≤ table
      at rest (yes u) =
          let l = parent_lower table h (not_root table v u) in
          let one_less : suc n - 1 ≡ n = omega arith in
          let e = owner_above cat (suc n) table v (inherited cat table) (omega arith) refl u
          ∙ ap (λ (k : ℕ). owner_in cat k (parent cat table) v) one_less in
          omega (arith, rest (parent cat table) v (omega arith))
      at rest (no u) = omega (arith, owner_here cat (suc n) table v (inherited cat table) refl (omega arith))

  -- nor do the climbs to a column's table
  owner_fuel : (n m table v : ℕ) → table < n → table < m → table < tables cat
      → owner_in cat n table v ≡ owner_in cat m table v
  owner_fuel zero m table v hn hm h = absurd (omega arith)
  owner_fuel (suc n) m table v hn hm h = at (owner_fuel n (m - 1)) (dec_lt v (inherited cat table))
    where
      at : ((j v : ℕ) → j < n → j < m - 1 → j < tables cat → owner_in cat n j v ≡ owner_in cat (m - 1) j v)
          → Dec (v < inherited cat table) → owner_in cat (suc n) table v ≡ owner_in cat m table v
      at rest (yes u) =
          let l = parent_lower table h (not_root table v u) in
          let one_less : suc n - 1 ≡ n = omega arith in
          owner_above cat (suc n) table v (inherited cat table) (omega arith) refl u
          ∙ ap (λ (k : ℕ). owner_in cat k (parent cat table) v) one_less
          ∙ rest (parent cat table) v (omega arith) (omega arith) (omega arith)
          ∙ sym (owner_above cat m table v (inherited cat table) (omega arith) refl u)
      at rest (no u) =
          sym (owner_here cat (suc n) table v (inherited cat table) refl (omega arith))
          ∙ owner_here cat m table v (inherited cat table) refl (omega arith)

  ancestor_fuel : (n m table v k : ℕ) → table < n → table < m → table < tables cat
      → ancestor_in cat (owner_in cat n table v) n table k ≡ ancestor_in cat (owner_in cat n table v) m table k
  ancestor_fuel zero m table v k hn hm h = absurd (omega arith)
  ancestor_fuel (suc n) m table v k hn hm h = at (ancestor_fuel n (m - 1)) (dec_lt v (inherited cat table))
    where
      Same : ℕ → Type 0
      Same a = ancestor_in cat a (suc n) table k ≡ ancestor_in cat a m table k

      at : ((j v k : ℕ) → j < n → j < m - 1 → j < tables cat
          → ancestor_in cat (owner_in cat n j v) n j k ≡ ancestor_in cat (owner_in cat n j v) (m - 1) j k)
          → Dec (v < inherited cat table) → Same (owner_in cat (suc n) table v)
      at rest (yes u) =
          let l = parent_lower table h (not_root table v u) in
          let one_less : suc n - 1 ≡ n = omega arith in
          let a = owner_in cat n (parent cat table) v in
          let up : owner_in cat (suc n) table v ≡ a =
          owner_above cat (suc n) table v (inherited cat table) (omega arith) refl u
          ∙ ap (λ (k : ℕ). owner_in cat k (parent cat table) v) one_less in
          let far : table ≡ a → ⊥ = λ e. omega (arith, owner_le n (parent cat table) v (omega arith)) in
          subst Same (sym up)
          (ancestor_above cat a (suc n) table k (omega arith) far
          ∙ ap (λ (j : ℕ). ancestor_in cat a j (parent cat table) (parent_row cat table k)) one_less
          ∙ rest (parent cat table) v (parent_row cat table k) (omega arith) (omega arith) (omega arith)
          ∙ sym (ancestor_above cat a m table k (omega arith) far))
      at rest (no u) =
          subst Same (owner_here cat (suc n) table v (inherited cat table) refl (omega arith))
          (sym (ancestor_here cat table (suc n) table k refl) ∙ ancestor_here cat table m table k refl)

  -- a column of an ancestor belongs to the same table as seen from the parent, and a row reaches there the row that
  -- its parent row reaches
  module _ (table v : ℕ) (h : table < tables cat) (u : v < inherited cat table) where
    owner_parent : owner cat table v ≡ owner cat (parent cat table) v
    unfolding owner
    owner_parent =
        let l = parent_lower table h (not_root table v u) in
        let f = accepted_tables cat ok in
        owner_above cat table_bound table v (inherited cat table) (omega arith) refl u
        ∙ owner_fuel (table_bound - 1) table_bound (parent cat table) v (omega arith) (omega arith) (omega arith)

    ancestor_parent : (k : ℕ)
        → ancestor cat (owner cat (parent cat table) v) table k
        ≡ ancestor cat (owner cat (parent cat table) v) (parent cat table) (parent_row cat table k)
    unfolding owner ancestor
    ancestor_parent k =
        let above = parent cat table in
        let l = parent_lower table h (not_root table v u) in
        let f = accepted_tables cat ok in
        let far : table ≡ owner cat above v → ⊥ = λ e. omega (arith, owner_le table_bound above v (omega arith)) in
        ancestor_above cat (owner cat above v) table_bound table k (omega arith) far
        ∙ sym (ancestor_fuel table_bound (table_bound - 1) above v (parent_row cat table k) (omega arith) (omega arith)
        (omega arith))

    -- so rows agree on it as their parent rows do
    pub agree_above : (p q : ℕ)
        → agree_at cat table v p q ≡ agree_at cat (parent cat table) v (parent_row cat table p) (parent_row cat table q)
    agree_above p q =
        agree_reached cat table v p q (owner cat (parent cat table) v) owner_parent
        ∙ ap₂ (reached cat v (owner cat (parent cat table) v)) (ancestor_parent p) (ancestor_parent q)
        ∙ sym (agree_reached cat (parent cat table) v (parent_row cat table p) (parent_row cat table q) _ refl)

    -- and a row has its cell if its parent row does
    pub present_above : (p : ℕ)
        → present_at cat table v p ≡ present_at cat (parent cat table) v (parent_row cat table p)
    present_above p =
        present_reached cat table v p (owner cat (parent cat table) v) owner_parent
        ∙ ap (has cat v (owner cat (parent cat table) v)) (ancestor_parent p)
        ∙ sym (present_reached cat (parent cat table) v (parent_row cat table p) _ refl)
