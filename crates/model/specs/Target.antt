-- A row of a target with the ancestor rows that its parent numbers lead to, what two such rows agree on ("Agreement";
-- a tree tuple of source 004's Definition 5 without the descendants, and Definitions 6 to 8), and which cells such a
-- row has (document 02, d; the second clause of Definition 9).
use Rattle.std.specs.Prelude.{ℕ, zero, suc, ◌-◌, ◌^◌, List, Bool, not, ◌&&◌, ◌||◌, eqb}
use Rattle.columns.specs.Test.{if_eq, if_lt}
use Rattle.model.specs.Bounds.{table_bound, missing}
use Rattle.model.specs.Catalogue.{parent, rows, parent_row, cell, visible, inherited}
use Rattle.model.specs.View.{View}

-- the table that visible column v of a table belongs to, climbing n tables at most: itself, or the same of its parent
unfoldable pub owner_in : List ℕ → ℕ → ℕ → ℕ → ℕ
owner_in cat zero target v = target
owner_in cat (suc n) target v = if_lt v (inherited cat target) (owner_in cat n (parent cat target) v) target

unfoldable pub owner : List ℕ → ℕ → ℕ → ℕ
owner cat target v = owner_in cat table_bound target v

-- the row of table a that row k of a table leads to, climbing n tables at most
unfoldable pub ancestor_in : List ℕ → ℕ → ℕ → ℕ → ℕ → ℕ
ancestor_in cat a zero target k = k
ancestor_in cat a (suc n) target k = if_eq target a k (ancestor_in cat a n (parent cat target) (parent_row cat target k))

unfoldable pub ancestor : List ℕ → ℕ → ℕ → ℕ → ℕ
ancestor cat a target k = ancestor_in cat a table_bound target k

-- two cells, of the rows p and q of one table, agree: it is the same row, or both are present with equal codes
unfoldable pub cells_agree : ℕ → ℕ → ℕ → ℕ → Bool
cells_agree p q x y = eqb p q || (not (eqb x missing) && eqb x y)

-- rows p and q of a target agree on visible column v: by the rows of the column's table that they reach, and their
-- cells there
unfoldable pub agree_at : List ℕ → ℕ → ℕ → ℕ → ℕ → Bool
agree_at cat target v p q =
    let a = owner cat target v in
    let c = v - inherited cat a in
    let x = ancestor cat a target p in
    let y = ancestor cat a target q in
    cells_agree x y (cell cat a x c) (cell cat a y c)

-- the cell of visible column v is present in row p of a target: that of the row reached in the column's table is not
-- missing
unfoldable pub present_at : List ℕ → ℕ → ℕ → ℕ → Bool
present_at cat target v p =
    let a = owner cat target v in
    let c = v - inherited cat a in
    not (eqb (cell cat a (ancestor cat a target p) c) missing)

-- the target as a view: its rows, its visible columns, agreement on them, and which cells are present
abbrev pub view : List ℕ → ℕ → View
view cat target =
    record {
      rows = rows cat target;
      members = visible cat target;
      agree = agree_at cat target;
      present = present_at cat target;
    }

-- the right sides of a target as a mask over its visible columns and the row: its own columns, by their visible
-- numbers, and the row
abbrev pub own_rights : List ℕ → ℕ → ℕ
own_rights cat target = 2 ^ suc (visible cat target) - 2 ^ inherited cat target
