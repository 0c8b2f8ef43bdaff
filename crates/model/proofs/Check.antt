-- What an accepted catalogue satisfies, as far as it is cited: lines of the table of refusals 2 to 7, read off the
-- check. Every law here is for bytes with `Accepted cat`, and a table t of them.
use Prim.Native.Nat.{ℕ, ◌+◌, ◌-◌, ◌*◌, ◌≤◌, ◌<◌}
use mathlib.Core.Path.{◌≡◌, refl, sym, subst, ◌∙◌}
use mathlib.Core.List.{List}
use native.Mathlib.Nat.{zero-add}
use native.Mathlib.Omega.{arith}
use lib.ListN.{length}
use Rattle.columns.specs.Bound.{column_bound}
use Rattle.columns.specs.Test.{if_eq, if_lt}
use Rattle.columns.proofs.Test.{if_eq_yes, if_eq_no, if_lt_no}
use Rattle.model.specs.Bounds.{table_bound, row_bound, no_parent}
use Rattle.model.specs.Refusal.{number, or_else, first_of}
use Rattle.model.specs.Catalogue.{tables, trailer, columns, parent, rows, parent_row, table_end, visible}
use Rattle.model.specs.Check.{Accepted, check_code, trailer_code, bound_code}
use Rattle.model.specs.Check.{parent_code, width_code, extent_code, row_code, table_code, left_code}
use Rattle.model.specs.declared.Refusal.TheVariants.{BadTrailer, TableTooLarge}
use Rattle.model.proofs.Grounds.{or_else_left, or_else_right, first_of_each, if_eq_passes, if_eq_fails, if_lt_passes}
use Rattle.model.proofs.Grounds.{if_lt_fails, if_le_passes}

module _ (cat : List ℕ) (ok : Accepted cat) where
  -- the steps of the check
  after_size : or_else (trailer_code cat) (or_else (first_of (tables cat) 0 (table_code cat)) (left_code cat)) ≡ 0
  unfolding check_code
  after_size = or_else_right _ _ ok

  no_trailer : trailer_code cat ≡ 0
  no_trailer = or_else_left _ _ after_size

  no_table_left : or_else (first_of (tables cat) 0 (table_code cat)) (left_code cat) ≡ 0
  no_table_left = or_else_right _ _ after_size

  -- 2: there is a table, there are not too many, and the trailer ends the file
  pub accepted_some : 0 < tables cat
  unfolding trailer_code
  accepted_some = let n = if_eq_fails (tables cat) 0 _ _ (omega arith) no_trailer in omega arith

  after_some : if_lt table_bound (tables cat) (number BadTrailer)
      (if_eq (trailer cat + 4 * tables cat + 6) (length cat) 0 (number BadTrailer)) ≡ 0
  unfolding trailer_code
  after_some =
      let h = accepted_some in
      let n : tables cat ≡ 0 → ⊥ = omega arith in
      sym (if_eq_no (number BadTrailer) n) ∙ no_trailer

  pub accepted_tables : tables cat ≤ table_bound
  accepted_tables = if_lt_fails _ _ _ _ (omega arith) after_some

  pub accepted_trailer : trailer cat + 4 * tables cat + 6 ≡ length cat
  accepted_trailer =
      if_eq_passes _ _ _ _ (omega arith) (sym (if_lt_no (number BadTrailer) accepted_tables) ∙ after_some)

  module _ (t : ℕ) (exists : t < tables cat) where
    -- the steps of the check of a table
    no_table : table_code cat t ≡ 0
    no_table =
        subst (λ (i : ℕ). table_code cat i ≡ 0) (zero-add t)
        (first_of_each (tables cat) 0 (table_code cat) (or_else_left _ _ no_table_left) t exists)

    after_head : or_else (bound_code cat t)
        (or_else (parent_code cat t)
        (or_else (width_code cat t) (or_else (extent_code cat t) (first_of (rows cat t) 0 (row_code cat t))))) ≡ 0
    unfolding table_code
    after_head = or_else_right _ _ no_table

    no_bound : bound_code cat t ≡ 0
    no_bound = or_else_left _ _ after_head

    after_bound : or_else (parent_code cat t)
        (or_else (width_code cat t) (or_else (extent_code cat t) (first_of (rows cat t) 0 (row_code cat t)))) ≡ 0
    after_bound = or_else_right _ _ after_head

    no_parent_lem : parent_code cat t ≡ 0
    no_parent_lem = or_else_left _ _ after_bound

    after_parent : or_else (width_code cat t) (or_else (extent_code cat t) (first_of (rows cat t) 0 (row_code cat t))) ≡ 0
    after_parent = or_else_right _ _ after_bound

    no_width : width_code cat t ≡ 0
    no_width = or_else_left _ _ after_parent

    after_width : or_else (extent_code cat t) (first_of (rows cat t) 0 (row_code cat t)) ≡ 0
    after_width = or_else_right _ _ after_parent

    no_row : (k : ℕ) → k < rows cat t → row_code cat t k ≡ 0
    no_row k l =
        subst (λ (i : ℕ). row_code cat t i ≡ 0) (zero-add k)
        (first_of_each (rows cat t) 0 (row_code cat t) (or_else_right _ _ after_width) k l)

    -- 3: the table's rows end at or before the trailer
    pub accepted_end : table_end cat t ≤ trailer cat
    unfolding extent_code
    accepted_end = if_le_passes _ _ _ _ (omega arith) (or_else_left _ _ after_width)

    -- 4: not too many columns or rows
    pub accepted_columns : columns cat t ≤ column_bound
    unfolding bound_code
    accepted_columns = if_lt_fails _ _ _ _ (omega arith) no_bound

    pub accepted_rows : rows cat t ≤ row_bound
    unfolding bound_code
    accepted_rows =
        if_lt_fails _ _ _ _ (omega arith) (sym (if_lt_no (number TableTooLarge) accepted_columns) ∙ no_bound)

    -- 5: the parent of every table but the root is lower-numbered
    pub accepted_parent : 0 < t → parent cat t < t
    unfolding parent_code
    accepted_parent h =
        let n : t ≡ 0 → ⊥ = omega arith in
        if_lt_passes _ _ _ _ (omega arith) (sym (if_eq_no _ n) ∙ no_parent_lem)

    -- 6: not too many visible columns
    pub accepted_visible : visible cat t ≤ column_bound
    unfolding width_code
    accepted_visible = if_lt_fails _ _ _ _ (omega arith) no_width

    -- 7: the parent row of every row but the root's is one of the parent table's rows
    pub accepted_row : 0 < t → (k : ℕ) → k < rows cat t → parent_row cat t k < rows cat (parent cat t)
    unfolding row_code
    accepted_row h k l =
        let n : t ≡ 0 → ⊥ = omega arith in
        if_lt_passes _ _ _ _ (omega arith) (sym (if_eq_no _ n) ∙ no_row k l)

  -- 5: the root has no parent
  pub accepted_root : parent cat 0 ≡ no_parent
  unfolding parent_code
  accepted_root =
      if_eq_passes _ _ _ _ (omega arith) (sym (if_eq_yes {a = 0} {b = 0} _ refl) ∙ no_parent_lem 0 accepted_some)
