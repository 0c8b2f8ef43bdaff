-- Catalogues of several tables, and what is true of them: columns and rows two and three tables up, missing cells of
-- ancestors, parents with equal cells, two tables under one parent, and as many tables in a line as a catalogue may
-- have.
use Rattle.std.specs.Prelude.{ℕ, zero, suc, ◌+◌, ◌≡◌, List, [], ◌∷◌, ◌++◌, map, true, false}
use Rattle.model.specs.Bounds.{no_parent, missing, row}
use Rattle.model.specs.Reply.{answered}
use Rattle.model.specs.Catalogue.{visible, inherited}
use Rattle.model.specs.Check.{Accepted, check_meaning}
use Rattle.model.specs.View.{Holds, Key, Breaks}
use Rattle.model.specs.Target.{owner, ancestor, agree_at, present_at, view}
use Rattle.model.specs.Entry.{entry}
use Rattle.model.specs.Listing.{rights_of, cells, ordinary}
use Rattle.model.specs.Calls.{flat}
use Rattle.model.specs.Encode.{head_of, row_of, trailer_of}

-- four tables, each the parent of the next. The rows of table 3 lead to these rows of tables 2, 1 and 0:
--   row 0 to 2, 0, 2; row 1 to 0, 1, 0; row 2 to 1, 2, 0; row 3 to 0, 1, 0
unfoldable pub in_line : List ℕ
in_line =
    head_of 1 no_parent 3
    ++ row_of no_parent (missing ∷ [])
    ++ row_of no_parent (5 ∷ [])
    ++ row_of no_parent (missing ∷ [])
    ++ head_of 1 0 3
    ++ row_of 2 (7 ∷ [])
    ++ row_of 0 (7 ∷ [])
    ++ row_of 0 (8 ∷ [])
    ++ head_of 1 1 3
    ++ row_of 1 (missing ∷ [])
    ++ row_of 2 (3 ∷ [])
    ++ row_of 0 (3 ∷ [])
    ++ head_of 2 2 4
    ++ row_of 2 (1 ∷ 1 ∷ [])
    ++ row_of 0 (2 ∷ 1 ∷ [])
    ++ row_of 1 (2 ∷ 6 ∷ [])
    ++ row_of 0 (2 ∷ 9 ∷ [])
    ++ trailer_of (0 ∷ 24 ∷ 48 ∷ 72 ∷ []) 4 118

pub record Line : Type 0 where
  pub accepted : Accepted in_line
  -- 4 tables, and 2 + 4 + 8 + 32 sets over all targets
  pub check : check_meaning in_line ≡ answered (4 ∷ 46 ∷ [])
  -- the visible columns of tables 0 to 3, and how many of them the ancestors have
  pub visibles : map (visible in_line) (0 ∷ 1 ∷ 2 ∷ 3 ∷ []) ≡ 1 ∷ 2 ∷ 3 ∷ 5 ∷ []
  pub inheriteds : map (inherited in_line) (0 ∷ 1 ∷ 2 ∷ 3 ∷ []) ≡ 0 ∷ 1 ∷ 2 ∷ 3 ∷ []
  -- the table of each visible column of table 3, of table 2, and the right sides of both
  pub owners : map (owner in_line 3) (0 ∷ 1 ∷ 2 ∷ 3 ∷ 4 ∷ []) ≡ 0 ∷ 1 ∷ 2 ∷ 3 ∷ 3 ∷ []
  pub owners_above : map (owner in_line 2) (0 ∷ 1 ∷ 2 ∷ []) ≡ 0 ∷ 1 ∷ 2 ∷ []
  pub rights : rights_of (ordinary in_line) 3 ≡ 3 ∷ 4 ∷ row ∷ []
  pub rights_above : rights_of (ordinary in_line) 2 ≡ 2 ∷ row ∷ []
  -- the rows that the rows 0 to 3 of table 3 lead to, one, two and three tables up, and in the table itself
  pub one_up : map (ancestor in_line 2 3) (0 ∷ 1 ∷ 2 ∷ 3 ∷ []) ≡ 2 ∷ 0 ∷ 1 ∷ 0 ∷ []
  pub two_up : map (ancestor in_line 1 3) (0 ∷ 1 ∷ 2 ∷ 3 ∷ []) ≡ 0 ∷ 1 ∷ 2 ∷ 1 ∷ []
  pub three_up : map (ancestor in_line 0 3) (0 ∷ 1 ∷ 2 ∷ 3 ∷ []) ≡ 2 ∷ 0 ∷ 0 ∷ 0 ∷ []
  pub itself : map (ancestor in_line 3 3) (0 ∷ 1 ∷ 2 ∷ 3 ∷ []) ≡ 0 ∷ 1 ∷ 2 ∷ 3 ∷ []
  -- column 0 is three tables up, and its cells are missing: rows 1 and 2 reach the same root row by different parents
  -- and agree, rows 0 and 1 reach different ones and do not
  pub same_missing : agree_at in_line 3 0 1 2 ≡ true
  pub other_missing : agree_at in_line 3 0 0 1 ≡ false
  -- column 1 is two tables up: rows 0 and 1 reach different rows with equal cells and agree, rows 1 and 2 reach
  -- unequal cells
  pub equal_above : agree_at in_line 3 1 0 1 ≡ true
  pub unequal_above : agree_at in_line 3 1 1 2 ≡ false
  -- column 2 is the parent table's: rows 0 and 2 have different parents with equal cells and agree, rows 1 and 3 have
  -- the same parent, whose cell is missing, and agree, and rows 0 and 1 do not
  pub equal_parents : agree_at in_line 3 2 0 2 ≡ true
  pub same_parent : agree_at in_line 3 2 1 3 ≡ true
  pub other_parents : agree_at in_line 3 2 0 1 ≡ false
  -- columns 3 and 4 are own: rows 1 and 2 have equal cells under different parents, rows 1 and 3 unequal cells under
  -- one parent
  pub equal_own : agree_at in_line 3 3 1 2 ≡ true
  pub unequal_own : agree_at in_line 3 4 1 3 ≡ false
  -- {0}, three tables up, gives 3; it doesn't give 4, rows 1 and 2 break it
  pub gives : Holds (view in_line 3) 1 3
  pub breaks : (Holds (view in_line 3) 1 4 → ⊥) × Breaks (view in_line 3) 1 4 1 2
  -- {1}, two tables up, doesn't give 3: rows 0 and 1, whose ancestors have equal cells, break it; {1, 2} gives it
  pub breaks_above : (Holds (view in_line 3) 2 3 → ⊥) × Breaks (view in_line 3) 2 3 0 1
  pub gives_above : Holds (view in_line 3) 6 3
  -- {0, 4} gives the row, {1, 4} doesn't, rows 0 and 1 break it
  pub key : Key (view in_line 3) 17
  pub no_key : (Key (view in_line 3) 18 → ⊥) × Breaks (view in_line 3) 18 row 0 1
  -- which of the rows 0 to 3 have the cell of column 0, 1 and 2: by the rows reached, none; all; those whose parent has
  -- it
  pub present0 : map (present_at in_line 3 0) (0 ∷ 1 ∷ 2 ∷ 3 ∷ []) ≡ false ∷ false ∷ false ∷ false ∷ []
  pub present1 : map (present_at in_line 3 1) (0 ∷ 1 ∷ 2 ∷ 3 ∷ []) ≡ true ∷ true ∷ true ∷ true ∷ []
  pub present2 : map (present_at in_line 3 2) (0 ∷ 1 ∷ 2 ∷ 3 ∷ []) ≡ true ∷ false ∷ true ∷ false ∷ []
  -- no row below the root reaches the root row whose cell is present: {0} is backed by no row there, and by one of the
  -- root; {1, 2} gives 3 in table 3 and is no key, {2, 4} gives it too and is one
  pub listing : flat (cells (ordinary in_line))
      ≡ entry 0 1 row
      ∷ entry 2 6 row
      ∷ entry 3 6 3 ∷ entry 3 20 row ∷ entry 3 24 row
      ∷ []

-- two tables under the root, and one under the first of them: the parents of tables 2 and 3 are not the tables before
-- them
unfoldable pub forked : List ℕ
forked =
    head_of 1 no_parent 2
    ++ row_of no_parent (4 ∷ [])
    ++ row_of no_parent (6 ∷ [])
    ++ head_of 2 0 2
    ++ row_of 1 (8 ∷ 9 ∷ [])
    ++ row_of 1 (8 ∷ 6 ∷ [])
    ++ head_of 1 0 2
    ++ row_of 1 (2 ∷ [])
    ++ row_of 0 (2 ∷ [])
    ++ head_of 1 1 2
    ++ row_of 0 (3 ∷ [])
    ++ row_of 1 (4 ∷ [])
    ++ trailer_of (0 ∷ 18 ∷ 44 ∷ 62 ∷ []) 4 80

pub record Fork : Type 0 where
  pub accepted : Accepted forked
  -- 2 + 8 + 4 + 16 sets
  pub check : check_meaning forked ≡ answered (4 ∷ 30 ∷ [])
  pub visibles : map (visible forked) (0 ∷ 1 ∷ 2 ∷ 3 ∷ []) ≡ 1 ∷ 3 ∷ 2 ∷ 4 ∷ []
  pub owners_in2 : map (owner forked 2) (0 ∷ 1 ∷ []) ≡ 0 ∷ 2 ∷ []
  pub owners_in3 : map (owner forked 3) (0 ∷ 1 ∷ 2 ∷ 3 ∷ []) ≡ 0 ∷ 1 ∷ 1 ∷ 3 ∷ []
  pub root_rows_of2 : map (ancestor forked 0 2) (0 ∷ 1 ∷ []) ≡ 1 ∷ 0 ∷ []
  pub root_rows_of3 : map (ancestor forked 0 3) (0 ∷ 1 ∷ []) ≡ 1 ∷ 1 ∷ []
  -- the rows of table 3 agree on the parent table's first column and not on its second
  pub first_above : agree_at forked 3 1 0 1 ≡ true
  pub second_above : agree_at forked 3 2 0 1 ≡ false
  pub listing : flat (cells (ordinary forked))
      ≡ entry 0 1 row
      ∷ entry 1 0 1 ∷ entry 1 4 row
      ∷ entry 2 0 1 ∷ entry 2 1 row
      ∷ entry 3 4 row ∷ entry 3 8 row
      ∷ []

-- 16 tables in a line, each with one column: two root rows, and one row in each other table, which leads to the
-- second of them
unfoldable pub below : ℕ → ℕ → List ℕ
below zero parent = []
below (suc n) parent = head_of 1 parent 1 ++ row_of 0 (1 ∷ []) ++ below n (suc parent)

unfoldable pub offsets_by12 : ℕ → ℕ → List ℕ
offsets_by12 zero i = []
offsets_by12 (suc n) i = i ∷ offsets_by12 n (i + 12)

unfoldable pub deepest : List ℕ
deepest =
    head_of 1 no_parent 2
    ++ row_of no_parent (5 ∷ [])
    ++ row_of no_parent (6 ∷ [])
    ++ head_of 1 0 1
    ++ row_of 1 (1 ∷ [])
    ++ below 14 1
    ++ trailer_of (0 ∷ offsets_by12 15 18) 16 198

pub record Depth : Type 0 where
  pub accepted : Accepted deepest
  -- 2 + 4 + .. + 65,536 sets
  pub check : check_meaning deepest ≡ answered (16 ∷ 131070 ∷ [])
  pub visibles : visible deepest 15 ≡ 16
  pub owners : map (owner deepest 15) (0 ∷ 1 ∷ 15 ∷ []) ≡ 0 ∷ 1 ∷ 15 ∷ []
  pub root_row : ancestor deepest 0 15 0 ≡ 1
