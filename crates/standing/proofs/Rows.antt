-- The rows of a table read off tags: off one tag and the others, and off some tags and others.
use Prim.Native.Nat.{ℕ, ◌+◌}
use mathlib.Core.Path.{◌≡◌, sym, ap, ap₂, ◌∙◌}
use mathlib.Core.List.{List, [], ◌∷◌, ◌++◌, append_assoc}
use native.Mathlib.Nat.{zero-add}
use native.Mathlib.Decide.{ℕ_discrete}
use native.Mathlib.Omega.{arith}
use Rattle.columns.specs.Test.{if_eq}
use Rattle.columns.proofs.Test.{if_eq_yes, if_eq_no}
use Rattle.model.specs.Forest.{codes_from}
use Rattle.model.specs.Convert.{Tag, count_of, rows_from}
use Rattle.standing.specs.Tags.{up_of}
use Rattle.standing.proofs.Counts.{one_more}

-- the row of a tag with its parent row, if the tag is of the table
unfoldable pub row_for : ℕ → ℕ → ℕ → Tag → List (ℕ × List ℕ)
row_for c table up t = if_eq t.0 table ((up, codes_from c 0 t.1) ∷ []) []

pub row_yes : (c table up : ℕ) (t : Tag) → t.0 ≡ table → row_for c table up t ≡ (up, codes_from c 0 t.1) ∷ []
unfolding row_for
row_yes c table up t e = if_eq_yes [] e

pub row_no : (c table up : ℕ) (t : Tag) → (t.0 ≡ table → ⊥) → row_for c table up t ≡ []
unfolding row_for
row_no c table up t n = if_eq_no ((up, codes_from c 0 t.1) ∷ []) n

-- a table that is not its own parent
module _ (c above table : ℕ) (other : table ≡ above → ⊥) where
  -- of one tag and the others
  pub rows_first : (seen : ℕ) (t : Tag) (ts : List Tag) → rows_from c above table seen (t ∷ ts)
      ≡ row_for c table (up_of table seen) t ++ rows_from c above table (if_eq t.0 above 1 0 + seen) ts
  unfolding rows_from up_of
  rows_first seen t ts = at (ℕ_discrete t.0 table)
    where
      at : Dec (t.0 ≡ table) → rows_from c above table seen (t ∷ ts)
          ≡ row_for c table (up_of table seen) t ++ rows_from c above table (if_eq t.0 above 1 0 + seen) ts
      at (yes e) =
          let none : ◌≡◌ {A = ℕ} (if_eq t.0 above 1 0) 0 = if_eq_no 1 (λ s. other (sym e ∙ s)) in
          let same : seen ≡ if_eq t.0 above 1 0 + seen = omega arith in
          if_eq_yes _ e ∙ ap₂ ◌++◌ (sym (row_yes c table (up_of table seen) t e))
          (ap (λ (s : ℕ). rows_from c above table s ts) same)
      at (no n) =
          if_eq_no _ n ∙ ap₂ ◌++◌ (sym (row_no c table (up_of table seen) t n))
          (ap (λ (s : ℕ). rows_from c above table s ts) (one_more t.0 above seen))

  -- of some tags and others: before these stand the rows of the first ones
  pub rows_append : (seen : ℕ) (xs ys : List Tag) → rows_from c above table seen (xs ++ ys)
      ≡ rows_from c above table seen xs ++ rows_from c above table (count_of above xs + seen) ys
  unfolding count_of rows_from
  rows_append seen [] ys = ap (λ (s : ℕ). rows_from c above table s ys) (sym (zero-add seen))
  rows_append seen (x ∷ xs) ys =
      let more = if_eq x.0 above 1 0 + seen in
      let e : count_of above xs + more ≡ count_of above (x ∷ xs) + seen
      = omega (arith, one_more x.0 above (count_of above xs)) in
      rows_first seen x (xs ++ ys)
      ∙ ap (λ (l : List (ℕ × List ℕ)). row_for c table (up_of table seen) x ++ l) (rows_append more xs ys)
      ∙ sym (append_assoc (row_for c table (up_of table seen) x) (rows_from c above table more xs) _)
      ∙ ap₂ ◌++◌ (sym (rows_first seen x xs)) (ap (λ (s : ℕ). rows_from c above table s ys) e)
