-- The full listing ("The full listing and its calls"), for any targets: what each shows of itself, and which rights
-- it has. The ordinary listing of a catalogue is one instance.
use Rattle.std.specs.Prelude.{ℕ, zero, suc, ◌+◌, ◌^◌, ◌≤◌, ◌<◌}
use mathlib.Core.List.{List, [], ◌∷◌, ◌++◌, Memᴰ}
use Rattle.columns.specs.Bound.{column_bound}
use Rattle.columns.specs.Test.{pick}
use Rattle.columns.specs.Order.{in_order}
use Rattle.model.specs.Bounds.{table_bound, row}
use Rattle.model.specs.Catalogue.{tables}
use Rattle.model.specs.View.{View}
use Rattle.model.specs.Listed.{Listed, listed}
use Rattle.model.specs.Rights.{rights_in}
use Rattle.model.specs.Target.{view, own_rights}
use Rattle.model.specs.Entry.{entry}
use Rattle.model.specs.declared.Entry.{Entry}

pub record Listing : Type 0 where
  pub targets : ℕ
  -- what a target shows of itself, and its right sides as a mask
  pub view : ℕ → View
  pub rights : ℕ → ℕ

-- how many members a target has, and its right sides
abbrev pub width_of : Listing → ℕ → ℕ
width_of l target = (l.view target).members

unfoldable pub rights_of : Listing → ℕ → List ℕ
rights_of l target = rights_in (width_of l target) (l.rights target)

-- the entries of one left side: an entry for each of the rights that is listed, in their order
unfoldable pub entries_of : Listing → ℕ → ℕ → List ℕ → List Entry
entries_of l target left [] = []
entries_of l target left (right ∷ rest) =
    pick (listed (l.view target) left right) (entry target left right ∷ entries_of l target left rest)
    (entries_of l target left rest)

-- for each left side of the list, its entries
unfoldable pub cells_of : Listing → ℕ → List ℕ → List (List Entry)
cells_of l target [] = []
cells_of l target (left ∷ lefts) = entries_of l target left (rights_of l target) ∷ cells_of l target lefts

-- the same for so many targets from one on, each with its sets in listing order
unfoldable pub cells_from : Listing → ℕ → ℕ → List (List Entry)
cells_from l zero target = []
cells_from l (suc n) target = cells_of l target (in_order (width_of l target)) ++ cells_from l n (suc target)

-- for each place, the entries of the set at that place. The full listing is all of them one after the other; below
-- place p stand the entries of the first p sets; the last place is how many there are
unfoldable pub cells : Listing → List (List Entry)
cells l = cells_from l l.targets 0

-- an entry stands in the listing: its target, left and right exist, and it is listed
pub record Stands (l : Listing) (e : Entry) : Type 0 where
  pub target : e.target < l.targets
  pub left : e.left < 2 ^ width_of l e.target
  pub right : Memᴰ e.right (rights_of l e.target)
  pub listed : Listed (l.view e.target) e.left e.right

-- how many stand, counted target by target, left side by left side as numbers, right by right
unfoldable pub count_rights : Listing → ℕ → ℕ → List ℕ → ℕ
count_rights l target left [] = 0
count_rights l target left (right ∷ rest) =
    pick (listed (l.view target) left right) 1 0 + count_rights l target left rest

unfoldable pub count_lefts : Listing → ℕ → ℕ → ℕ
count_lefts l target zero = 0
count_lefts l target (suc left) = count_rights l target left (rights_of l target) + count_lefts l target left

unfoldable pub count_targets : Listing → ℕ → ℕ
count_targets l zero = 0
count_targets l (suc target) = count_lefts l target (2 ^ width_of l target) + count_targets l target

unfoldable pub count_all : Listing → ℕ
count_all l = count_targets l l.targets

-- a listing within the bounds: it has no more targets and members than a catalogue has at most
pub record Bounded (l : Listing) : Type 0 where
  pub targets : l.targets ≤ table_bound
  pub members : (target : ℕ) → target < l.targets → width_of l target ≤ column_bound

-- a listing with the row among the rights of every target
abbrev pub RowRight : Listing → Type 0
RowRight l = (target : ℕ) → target < l.targets → Memᴰ row (rights_of l target)

-- the ordinary listing of a catalogue: its tables, their visible columns, and their own columns and the row on the
-- right
abbrev pub ordinary : List ℕ → Listing
ordinary cat = record { targets = tables cat; view = view cat; rights = own_rights cat }
