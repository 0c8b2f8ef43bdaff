-- What the tables of a forest that fits an accepted shape hold is sound: how many rows a table has, how many codes a
-- row, that the codes are numbers of 4 bytes, and that a row's parent row is one of the parent table.
use Prim.Native.Nat.{ℕ, zero, suc, ◌-◌, ◌≤◌, ◌<◌}
use mathlib.Core.Path.{◌≡◌, refl, sym, ap, subst, ◌∙◌}
use mathlib.Core.List.{List, [], ◌∷◌, ◌++◌}
use native.Mathlib.Decide.{ℕ_discrete}
use native.Mathlib.Omega.{arith}
use lib.ListN.{length, get_or}
use Rattle.columns.specs.Test.{if_eq}
use Rattle.columns.proofs.Test.{if_eq_yes, if_eq_no}
use Rattle.model.specs.Bounds.{no_parent, missing}
use Rattle.model.specs.Catalogue.{tables, columns, parent}
use Rattle.model.specs.Check.{Accepted}
use Rattle.model.specs.Forest.{Cells, Forest, none, tree, FitsIn, Fits, times, tables_in, rows_in, value_or, codes_from}
use Rattle.model.specs.Convert.{Tag, count_of, rows_from}
use Rattle.model.proofs.Check.{accepted_tables, accepted_parent}
use Rattle.encoding.specs.Each.{Each}
use Rattle.standing.specs.Tags.{tags_of, rows_of, SmallCells, SmallTags, Small, up_of}
use Rattle.encoding.proofs.Each.{each_of, each_append, each_at}
use Rattle.standing.proofs.Counts.{one_more, times_append, times_more, count_tags}
use Rattle.standing.proofs.Rows.{row_for, row_yes, row_no}
use Rattle.standing.proofs.Standing.{rows_standing}

-- a number of 4 bytes
abbrev pub Code : ℕ → Type 0
Code x = x < 4294967296

-- of a row: c codes, which are numbers of 4 bytes; and no parent row, or one of n
abbrev pub Wide : ℕ → ℕ × List ℕ → Type 0
Wide c r = length r.1 ≡ c

abbrev pub Coded : ℕ × List ℕ → Type 0
Coded r = Each Code r.1

abbrev pub Parentless : ℕ × List ℕ → Type 0
Parentless r = r.0 ≡ no_parent

abbrev pub Within : ℕ → ℕ × List ℕ → Type 0
Within n r = r.0 < n

-- the codes of a row
pub codes_many : (n k : ℕ) (cs : Cells) → length (codes_from n k cs) ≡ n
unfolding codes_from
codes_many zero k cs = refl
codes_many (suc n) k cs = ap suc (codes_many n (suc k) cs)

value_small : (k code : ℕ) (cs : Cells) → Code code → SmallCells cs → Code (value_or k code cs)
unfolding value_or
value_small k code [] h s = h
value_small k code (c ∷ cs) h s = value_small k (if_eq c.0 k c.1 code) cs (at (ℕ_discrete c.0 k)) s.1
  where
    at : Dec (c.0 ≡ k) → Code (if_eq c.0 k c.1 code)
    at (yes e) = let v = if_eq_yes {a = c.0} {b = k} {x = c.1} code e in let l = s.0 in omega arith
    at (no n) = let v = if_eq_no {a = c.0} {b = k} c.1 {y = code} n in omega arith

codes_small : (n k : ℕ) (cs : Cells) → SmallCells cs → Each Code (codes_from n k cs)
unfolding codes_from
codes_small zero k cs s = tt
codes_small (suc n) k cs s = (value_small k missing cs (omega arith) s, codes_small n (suc k) cs s)

-- what holds of a tag's row, whatever stands before it, holds of every row of the table
module _ (c above table : ℕ) (P : ℕ × List ℕ → Type 0) (Q : Tag → Type 0) where
  each_row : ((t : Tag) (seen : ℕ) → Q t → P (up_of table seen, codes_from c 0 t.1))
      → (seen : ℕ) (ts : List Tag) → Each Q ts → Each P (rows_from c above table seen ts)
  unfolding rows_from up_of
  each_row f seen [] q = tt
  each_row f seen (t ∷ ts) q = at (λ s. each_row f s ts q.1) (ℕ_discrete t.0 table)
    where
      at : ((s : ℕ) → Each P (rows_from c above table s ts)) → Dec (t.0 ≡ table)
          → Each P (rows_from c above table seen (t ∷ ts))
      at others (yes e) = subst (Each P) (sym (if_eq_yes _ e)) (f t seen q.0, others seen)
      at others (no n) = subst (Each P) (sym (if_eq_no _ n)) (others (if_eq t.0 above (suc seen) seen))

-- of the rows read off tags: as many as there are tags of the table
pub rows_count : (c above table seen : ℕ) (ts : List Tag) → length (rows_from c above table seen ts) ≡ count_of table ts
unfolding rows_from count_of
rows_count c above table seen [] = refl
rows_count c above table seen (t ∷ ts) = at (λ s. rows_count c above table s ts) (ℕ_discrete t.0 table)
  where
    at : ((s : ℕ) → length (rows_from c above table s ts) ≡ count_of table ts) → Dec (t.0 ≡ table)
        → length (rows_from c above table seen (t ∷ ts)) ≡ count_of table (t ∷ ts)
    at others (yes e) = ap length (if_eq_yes _ e) ∙ ap suc (others seen) ∙ sym (if_eq_yes _ e)
    at others (no n) =
        ap length (if_eq_no _ n) ∙ others (if_eq t.0 above (suc seen) seen) ∙ sym (if_eq_no _ n)

-- each with a code for each column
pub rows_codes : (c above table seen : ℕ) (ts : List Tag) → Each (Wide c) (rows_from c above table seen ts)
rows_codes c above table seen ts =
    each_row c above table (Wide c) (λ t. Unit {0}) (λ t s q. codes_many c 0 t.1) seen ts
    (each_of (λ t. Unit {0}) (λ t. tt) ts)

-- each code a number of 4 bytes
pub rows_small : (c above table seen : ℕ) (ts : List Tag) → SmallTags ts
    → Each Coded (rows_from c above table seen ts)
rows_small c above table seen ts small =
    each_row c above table Coded (λ t. SmallCells t.1) (λ t s q. codes_small c 0 t.1 q) seen ts small

-- and those of the root without a parent row
pub rows_root : (c above seen : ℕ) (ts : List Tag) → Each Parentless (rows_from c above 0 seen ts)
unfolding up_of
rows_root c above seen ts =
    each_row c above 0 Parentless (λ t. Unit {0}) (λ t s q. if_eq_yes {a = 0} {b = 0} (s - 1) refl) seen ts
    (each_of (λ t. Unit {0}) (λ t. tt) ts)

-- the tags of a forest have its values
small_tags : (f : Forest) → Small f → SmallTags (tags_of f)
unfolding tags_of
small_tags none s = tt
small_tags (tree n cs inside after) s = (
  s.0,
  each_append (λ (t : Tag). SmallCells t.1) (tags_of inside) (tags_of after)
      (small_tags inside s.1.0) (small_tags after s.1.1),
)

-- the row of one tag
own_within : (c t up total n : ℕ) (cs : Cells) → (n ≡ t → up < total) → Each (Within total) (row_for c t up (n, cs))
own_within c t up total n cs h = at (ℕ_discrete n t)
  where
    at : Dec (n ≡ t) → Each (Within total) (row_for c t up (n, cs))
    at (yes e) = subst (Each (Within total)) (sym (row_yes c t up (n, cs) e)) (h e, tt)
    at (no e) = subst (Each (Within total)) (sym (row_no c t up (n, cs) e)) tt

-- A row of a table stands in a row of its parent table, which is before it: so its parent row is one of all of these.
module _ (shape : List ℕ) (t c total : ℕ) where
  parents_below : (m up : ℕ) (before : List ℕ) (f : Forest) → FitsIn shape m f
      → times (parent shape t) (before ++ tables_in f) ≤ total
      → (parent shape t ≡ m → up < times (parent shape t) before)
      → Each (Within total) (rows_in c t f up before)
  unfolding rows_in tables_in times row_for
  parents_below m up before none fits l h = tt
  parents_below m up before (tree n cs inside after) fits l h =
      let a = parent shape t in
      let one = one_more n a (times a (tables_in inside ++ tables_in after)) in
      let inner = one_more n a (times a (tables_in inside)) in
      let all = times_append a before (n ∷ (tables_in inside ++ tables_in after)) in
      let both = times_append a (tables_in inside) (tables_in after) in
      let first = times_append a before (n ∷ []) in
      let rest = times_append a before (n ∷ tables_in inside) in
      each_append (Within total) (row_for c t up (n, cs))
      (rows_in c t inside (times n before) (before ++ (n ∷ []))
      ++ rows_in c t after up (before ++ (n ∷ tables_in inside)))
      (own_within c t up total n cs (λ s. let k = h (ap (parent shape) (sym s) ∙ fits.1.0) in omega arith))
      (each_append (Within total) (rows_in c t inside (times n before) (before ++ (n ∷ [])))
      (rows_in c t after up (before ++ (n ∷ tables_in inside)))
      (parents_below n (times n before) (before ++ (n ∷ [])) inside fits.1.1.1.0
      (omega (arith, times_append a (before ++ (n ∷ [])) (tables_in inside)))
      (λ e. omega (arith, times_more n a before e)))
      (parents_below m up (before ++ (n ∷ tables_in inside)) after fits.1.1.1.1
      (omega (arith, times_append a (before ++ (n ∷ tables_in inside)) (tables_in after)))
      (λ e. let k = h e in omega arith)))

module _ (shape : List ℕ) (ok : Accepted shape) (f : Forest) (fits : Fits shape f) where
  module _ (t : ℕ) (exists : t < tables shape) where
    -- a table has as many rows as there are tags of it
    pub forest_count : length (rows_of shape f t) ≡ count_of t (tags_of f)
    forest_count =
        ap length (rows_standing shape ok f fits t exists)
        ∙ rows_count (columns shape t) (parent shape t) t 0 (tags_of f)

    -- every row has a code for each column
    pub forest_codes : Each (Wide (columns shape t)) (rows_of shape f t)
    forest_codes =
        subst (Each (Wide (columns shape t))) (sym (rows_standing shape ok f fits t exists))
        (rows_codes (columns shape t) (parent shape t) t 0 (tags_of f))

    -- every code is a number of 4 bytes
    pub forest_small : Small f → Each Coded (rows_of shape f t)
    forest_small small =
        subst (Each Coded) (sym (rows_standing shape ok f fits t exists))
        (rows_small (columns shape t) (parent shape t) t 0 (tags_of f) (small_tags f small))

    -- no row of the root has a parent row, and that of another's is one of the parent table's
    pub forest_root : t ≡ 0 → Each Parentless (rows_of shape f t)
    forest_root z =
        subst (Each Parentless) (sym (rows_standing shape ok f fits t exists))
        (subst (λ (k : ℕ). Each Parentless (rows_from (columns shape t) (parent shape t) k 0 (tags_of f))) (sym z)
        (rows_root (columns shape t) (parent shape t) 0 (tags_of f)))

    pub forest_parents : 0 < t → Each (Within (count_of (parent shape t) (tags_of f))) (rows_of shape f t)
    forest_parents h =
        let few = accepted_tables shape ok in
        let p = accepted_parent shape ok t exists h in
        parents_below shape t (columns shape t) (count_of (parent shape t) (tags_of f)) no_parent no_parent [] f fits
        (omega (arith, count_tags (parent shape t) f)) (λ e. absurd (omega arith))

    -- the same of row k
    pub codes_at : (k : ℕ) → k < length (rows_of shape f t)
        → length (get_or (rows_of shape f t) k (0, [])).1 ≡ columns shape t
    codes_at = each_at (Wide (columns shape t)) (0, []) (rows_of shape f t) forest_codes

    pub small_at : Small f → (k i : ℕ) → k < length (rows_of shape f t) → i < columns shape t
        → Code (get_or (get_or (rows_of shape f t) k (0, [])).1 i 0)
    small_at small k i l h =
        each_at Code 0 (get_or (rows_of shape f t) k (0, [])).1
        (each_at Coded (0, []) (rows_of shape f t) (forest_small small) k l) i (omega (arith, codes_at k l))

    pub root_at : t ≡ 0 → (k : ℕ) → k < length (rows_of shape f t)
        → (get_or (rows_of shape f t) k (0, [])).0 ≡ no_parent
    root_at z = each_at Parentless (0, []) (rows_of shape f t) (forest_root z)

    pub parent_at : 0 < t → (k : ℕ) → k < length (rows_of shape f t)
        → (get_or (rows_of shape f t) k (0, [])).0 < count_of (parent shape t) (tags_of f)
    parent_at h = each_at (Within (count_of (parent shape t) (tags_of f))) (0, []) (rows_of shape f t)
        (forest_parents h)
