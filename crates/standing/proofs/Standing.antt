-- The rows of a forest that fits an accepted shape, read off its tags one after the other, are the rows as they stand
-- in each other: between a row and one that stands in it no further row of the first one's table comes.
use Prim.Native.Nat.{ℕ, zero, suc, ◌+◌, ◌≤◌, ◌<◌}
use mathlib.Core.Path.{◌≡◌, refl, sym, ap, ap₂, ◌∙◌}
use mathlib.Core.List.{List, [], ◌∷◌, ◌++◌}
use native.Mathlib.Decide.{ℕ_discrete}
use native.Mathlib.Omega.{arith}
use Rattle.columns.specs.Test.{if_eq}
use Rattle.columns.proofs.Test.{if_eq_yes, if_eq_no}
use Rattle.model.specs.Bounds.{no_parent}
use Rattle.model.specs.Catalogue.{tables, columns, parent}
use Rattle.model.specs.Check.{Accepted}
use Rattle.model.specs.Encode.{content}
use Rattle.model.specs.Forest.{Cells, Forest, none, tree, FitsIn, Fits, times, tables_in, rows_in}
use Rattle.model.specs.Forest.{contents_in, contents_of}
use Rattle.model.specs.Convert.{Tag, count_of, rows_from, table_from, contents_from}
use Rattle.model.proofs.Check.{accepted_tables, accepted_parent, accepted_root}
use Rattle.standing.specs.Tags.{tags_of, rows_of, up_of}
use Rattle.standing.proofs.Counts.{one_more, times_append, times_more, count_tags}
use Rattle.standing.proofs.Rows.{row_for, row_no, rows_first, rows_append}

module _ (shape : List ℕ) (ok : Accepted shape) where
  -- a row that stands in a row is of a table of a higher number
  below : (n m : ℕ) → n < tables shape → parent shape n ≡ m → m < tables shape → m < n
  below n m l e h = at (ℕ_discrete n 0)
    where
      at : Dec (n ≡ 0) → m < n
      at (yes z) =
          let few = accepted_tables shape ok in
          let r : parent shape n ≡ no_parent = ap (parent shape) z ∙ accepted_root shape ok in
          absurd (omega arith)
      at (no z) = let p = accepted_parent shape ok n l (omega arith) in omega arith

  -- so none inside a row of table m is of table m or a lower one
  none_inside : (a m : ℕ) (f : Forest) → FitsIn shape m f → m < tables shape → a ≤ m → times a (tables_in f) ≡ 0
  unfolding times tables_in
  none_inside a m none fits l h = refl
  none_inside a m (tree n cs inside after) fits l h =
      let up = below n m fits.0 fits.1.0 l in
      if_eq_no _ (λ (e : n ≡ a). omega arith)
      ∙ omega (
        arith,
        times_append a (tables_in inside) (tables_in after),
        none_inside a n inside fits.1.1.1.0 fits.0 (omega arith),
        none_inside a m after fits.1.1.1.1 l h,
      )

  module _ (t : ℕ) (exists : t < tables shape) where
    -- no table is its own parent
    other : t ≡ parent shape t → ⊥
    other e = let h = below t t exists (sym e) exists in omega arith

    -- in a row of its parent table, which is the last one before, a row of table t gets the number of that row
    inside_up : (n : ℕ) (before : List ℕ) → n < tables shape → parent shape t ≡ n
        → times n before ≡ up_of t (times (parent shape t) (before ++ (n ∷ [])))
    unfolding up_of
    inside_up n before l e =
        let h = below t n exists e l in
        omega (arith, times_more n (parent shape t) before e) ∙ sym (if_eq_no no_parent (λ (z : t ≡ 0). omega arith))

    -- and behind a row beside it, with all that stands in that row, it gets the same as before
    after_up : (n m : ℕ) (before : List ℕ) (inside : Forest) → n < tables shape → parent shape n ≡ m
        → FitsIn shape n inside → parent shape t ≡ m
        → up_of t (times (parent shape t) before)
        ≡ up_of t (times (parent shape t) (before ++ (n ∷ tables_in inside)))
    unfolding up_of times
    after_up n m before inside l e fits q = at (ℕ_discrete t 0)
      where
        at : Dec (t ≡ 0) → up_of t (times (parent shape t) before)
            ≡ up_of t (times (parent shape t) (before ++ (n ∷ tables_in inside)))
        at (yes z) = if_eq_yes _ z ∙ sym (if_eq_yes _ z)
        at (no z) =
            let p = accepted_parent shape ok t exists (omega arith) in
            let h = below n m l e (omega arith) in
            let first : times (parent shape t) (n ∷ tables_in inside) ≡ times (parent shape t) (tables_in inside)
            = if_eq_no _ (λ (s : n ≡ parent shape t). omega arith) in
            let s : times (parent shape t) before ≡ times (parent shape t) (before ++ (n ∷ tables_in inside)) = omega (
              arith,
              times_append (parent shape t) before (n ∷ tables_in inside),
              none_inside (parent shape t) n inside fits l (omega arith),
            ) in
            ap (up_of t) s

    -- the row of a tag at the top of a forest that stands in a row of table m
    own_row : (c m up seen n : ℕ) (cs : Cells) → parent shape n ≡ m → (parent shape t ≡ m → up ≡ up_of t seen)
        → row_for c t up (n, cs) ≡ row_for c t (up_of t seen) (n, cs)
    own_row c m up seen n cs e h = at (ℕ_discrete n t)
      where
        at : Dec (n ≡ t) → row_for c t up (n, cs) ≡ row_for c t (up_of t seen) (n, cs)
        at (yes s) = ap (λ (u : ℕ). row_for c t u (n, cs)) (h (ap (parent shape) (sym s) ∙ e))
        at (no s) = row_no c t up (n, cs) s ∙ sym (row_no c t (up_of t seen) (n, cs) s)

    -- the rows of such a forest
    standing : (c m up : ℕ) (before : List ℕ) (f : Forest) → FitsIn shape m f
        → (parent shape t ≡ m → up ≡ up_of t (times (parent shape t) before))
        → rows_in c t f up before ≡ rows_from c (parent shape t) t (times (parent shape t) before) (tags_of f)
    unfolding rows_in rows_from tags_of row_for times
    standing c m up before none fits h = refl
    standing c m up before (tree n cs inside after) fits h =
        let a = parent shape t in
        let seen = times a before in
        let more = if_eq n a 1 0 + seen in
        let from : ℕ → List Tag → List (ℕ × List ℕ) = rows_from c a t in
        let e : times a (before ++ (n ∷ [])) ≡ more = omega (arith, times_append a before (n ∷ [])) in
        let g : times a (before ++ (n ∷ tables_in inside)) ≡ count_of a (tags_of inside) + more = omega (
          arith,
          times_append a before (n ∷ tables_in inside),
          one_more n a (times a (tables_in inside)),
          count_tags a inside,
        ) in
        ap₂ ◌++◌ (own_row c m up seen n cs fits.1.0 h)
        (ap₂ ◌++◌
        (standing c n (times n before) (before ++ (n ∷ [])) inside fits.1.1.1.0 (inside_up n before fits.0)
        ∙ ap (λ (s : ℕ). from s (tags_of inside)) e)
        (standing c m up (before ++ (n ∷ tables_in inside)) after fits.1.1.1.1
        (λ q. h q ∙ after_up n m before inside fits.0 fits.1.0 fits.1.1.1.0 q)
        ∙ ap (λ (s : ℕ). from s (tags_of after)) g))
        ∙ ap (λ (l : List (ℕ × List ℕ)). row_for c t (up_of t seen) (n, cs) ++ l)
        (sym (rows_append c a t other more (tags_of inside) (tags_of after)))
        ∙ sym (rows_first c a t other seen (n, cs) (tags_of inside ++ tags_of after))

    -- the text as a whole stands in no row
    root_up : parent shape t ≡ no_parent → no_parent ≡ up_of t 0
    unfolding up_of
    root_up e = at (ℕ_discrete t 0)
      where
        at : Dec (t ≡ 0) → no_parent ≡ up_of t 0
        at (yes z) = sym (if_eq_yes _ z)
        at (no z) =
            let few = accepted_tables shape ok in
            let p = accepted_parent shape ok t exists (omega arith) in
            absurd (omega arith)

  -- the rows of each table
  pub rows_standing : (f : Forest) → Fits shape f → (t : ℕ) → t < tables shape
      → rows_of shape f t ≡ rows_from (columns shape t) (parent shape t) t 0 (tags_of f)
  unfolding times
  rows_standing f fits t exists = standing t exists (columns shape t) no_parent no_parent [] f fits (root_up t exists)

  -- and so all tables
  contents_from_lem : (f : Forest) → Fits shape f → (n table : ℕ) → table + n ≤ tables shape
      → contents_in shape f n table ≡ contents_from shape (tags_of f) n table
  unfolding contents_in contents_from table_from
  contents_from_lem f fits zero table h = refl
  contents_from_lem f fits (suc n) table h =
      ap₂ ◌∷◌
      (ap (content (columns shape table) (parent shape table)) (rows_standing f fits table (omega arith)))
      (contents_from_lem f fits n (suc table) (omega arith))

  pub contents_standing : (f : Forest) → Fits shape f
      → contents_of shape f ≡ contents_from shape (tags_of f) (tables shape) 0
  unfolding contents_of
  contents_standing f fits = contents_from_lem f fits (tables shape) 0 (omega arith)
