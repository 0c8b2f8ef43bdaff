-- The visible columns of some tables are those of any catalogue with the same columns and parents, in which a parent is
-- lower-numbered.
use Prim.Native.Nat.{ℕ, zero, suc, ◌+◌, ◌<◌}
use mathlib.Core.Path.{◌≡◌, refl, sym, ap, ap₂, ◌∙◌}
use mathlib.Core.List.{List}
use native.Mathlib.Decide.{ℕ_discrete}
use native.Mathlib.Omega.{arith}
use lib.ListN.{length}
use Rattle.columns.specs.Test.{if_eq}
use Rattle.columns.proofs.Test.{if_eq_yes}
use Rattle.model.specs.Bounds.{table_bound}
use Rattle.model.specs.Catalogue.{parent, visible, visible_in}
use Rattle.model.specs.Encode.{Content}
use Rattle.encoding.specs.Sound.{Shaped, table_of, visible_from, visible_of}

module _ (shape : List ℕ) (ts : List Content) (shaped : Shaped shape ts)
    (lower : (i : ℕ) → i < length ts → 0 < i → parent shape i < i) where
  climbs_same : (n i : ℕ) → i < length ts → visible_from ts n i ≡ visible_in shape n i
  unfolding visible_from visible_in
  climbs_same zero i l = refl
  climbs_same (suc n) i l =
      ap₂ (λ (x y : ℕ). x + y) (shaped.columns_same i l) (at (λ j m. climbs_same n j m) (ℕ_discrete i 0))
    where
      at : ((j : ℕ) → j < length ts → visible_from ts n j ≡ visible_in shape n j) → Dec (i ≡ 0)
          → if_eq i 0 0 (visible_from ts n (table_of ts i).parent) ≡ if_eq i 0 0 (visible_in shape n (parent shape i))
      at go (yes z) = if_eq_yes _ z ∙ sym (if_eq_yes _ z)
      at go (no z) =
          let p = lower i l (omega arith) in
          ap (λ (j : ℕ). if_eq i 0 0 (visible_from ts n j)) (shaped.parent_same i l)
          ∙ ap (if_eq i 0 0) (go (parent shape i) (omega arith))

  pub visible_as : (i : ℕ) → i < length ts → visible_of ts i ≡ visible shape i
  unfolding visible_of visible
  visible_as i l = climbs_same table_bound i l
