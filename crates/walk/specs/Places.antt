-- Where a set stands in a full listing: by its target, and by its index in the listing order of the target's sets.
use Rattle.std.specs.Prelude.{ℕ, suc, ◌-◌, ◌^◌, ◌<◌, ◌≡◌, List, ◌++◌, get_or, drop}
use Rattle.columns.specs.Order.{in_order}
use Rattle.model.specs.Listing.{Listing, width_of, cells_of, cells_from, cells}
use Rattle.model.specs.declared.Entry.{Entry}

-- the left side x is the set at an index of target t's order
pub record Chosen (l : Listing) (t x i : ℕ) : Type 0 where
  pub target : t < l.targets
  pub inside : i < 2 ^ width_of l t
  pub left : x ≡ get_or (in_order (width_of l t)) i 0

-- the cells of target t from an index on, and those of the later targets
abbrev pub cells_at : Listing → ℕ → ℕ → List (List Entry)
cells_at l t i =
    cells_of l t (drop i (in_order (width_of l t))) ++ cells_from l (l.targets - suc t) (suc t)

-- the set x of target t stands at the place
pub record SetAt (l : Listing) (t x place : ℕ) : Type 0 where
  pub index : ℕ
  pub set : Chosen l t x index
  pub cells : drop place (cells l) ≡ cells_at l t index

-- the set x of target t stands before the place
pub record SetBefore (l : Listing) (t x place : ℕ) : Type 0 where
  pub index : ℕ
  pub set : Chosen l t x index
  pub cells : drop place (cells l) ≡ cells_at l t (suc index)

-- the set at an index of target t's order stands at the place
pub record Found (l : Listing) (place t i : ℕ) : Type 0 where
  pub target : t < l.targets
  pub inside : i < 2 ^ width_of l t
  pub cells : drop place (cells l) ≡ cells_at l t i
