-- A code of the check is the number of a refusal.
use Prim.Native.Nat.{ℕ, ◌≤◌}
use mathlib.Core.List.{List}
use lib.Dec.{lit≤}
use Rattle.model.specs.Refusal.{number}
use Rattle.model.specs.declared.Refusal.TheVariants.{BadParentRow}
use Rattle.model.specs.Catalogue.{tables, rows}
use Rattle.model.specs.Check.{size_code, trailer_code, head_code, bound_code, parent_code, width_code, extent_code}
use Rattle.model.specs.Check.{row_code, table_code, left_code, check_code}
use Rattle.model.proofs.Grounds.{if_eq_le, if_lt_le, if_le_le, or_else_le, first_of_le}

table_code_le : (cat : List ℕ) (i : ℕ) → table_code cat i ≤ number BadParentRow
unfolding table_code head_code bound_code parent_code width_code extent_code row_code
table_code_le cat i =
    or_else_le (if_eq_le _ _ (if_le_le _ _ (lit≤ tt) (lit≤ tt)) (lit≤ tt))
    (or_else_le (if_lt_le _ _ (lit≤ tt) (if_lt_le _ _ (lit≤ tt) (lit≤ tt)))
    (or_else_le (if_eq_le _ _ (if_eq_le _ _ (lit≤ tt) (lit≤ tt)) (if_lt_le _ _ (lit≤ tt) (lit≤ tt)))
    (or_else_le (if_lt_le _ _ (lit≤ tt) (lit≤ tt))
    (or_else_le (if_le_le _ _ (lit≤ tt) (lit≤ tt))
    (first_of_le (rows cat i) 0 (row_code cat i)
    (λ k. if_eq_le _ _ (if_eq_le _ _ (lit≤ tt) (lit≤ tt)) (if_lt_le _ _ (lit≤ tt) (lit≤ tt))))))))

-- the check's code is 0 or the number of one of its refusals, of which the last is for a row
pub check_code_le : (cat : List ℕ) → check_code cat ≤ number BadParentRow
unfolding check_code size_code trailer_code left_code
check_code_le cat =
    or_else_le (if_lt_le _ _ (lit≤ tt) (lit≤ tt))
    (or_else_le (if_eq_le _ _ (lit≤ tt) (if_lt_le _ _ (lit≤ tt) (if_eq_le _ _ (lit≤ tt) (lit≤ tt))))
    (or_else_le (first_of_le (tables cat) 0 (table_code cat) (table_code_le cat)) (if_eq_le _ _ (lit≤ tt) (lit≤ tt))))
