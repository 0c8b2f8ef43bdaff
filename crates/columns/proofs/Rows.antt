-- Rows of Pascal's numbers count the sets of each size: the row of no column, a row from the one before, row after row.
use Prim.Native.Nat.{ℕ, zero, suc, ◌+◌, ◌-◌, ◌≤◌, ◌<◌}
use mathlib.Core.Path.{◌≡◌, refl, sym, ap, ap₂, ◌∙◌, subst, subst₂}
use mathlib.Core.List.{List, [], ◌∷◌, map}
use native.Mathlib.Decide.{ℕ_discrete, dec_lt}
use native.Mathlib.Nat.{add-zero, zero-add}
use native.Mathlib.Omega.{arith}
use lib.ListN.{length, get_or, set, replicate, length-set, length-replicate, get_or-replicate, get_or-eq_default}
use lib.Count.{ones}
use lib.Seq.{get_or-set_same, get_or-set_other}
use Rattle.columns.specs.Bound.{column_bound}
use Rattle.columns.specs.Order.{of_size_from, of_size}
use Rattle.columns.specs.Test.{if_eq}
use Rattle.columns.specs.Counts.{total, Counts, CountsUpTo}
use Rattle.columns.proofs.Pascal.{length_suc_suc, length_none, length_over, sizes_from, sizes_sum}

-- the numbers of a row that counts sizes from k on add up to how many sets have these sizes
total_sizes : (n k : ℕ) (row : List ℕ) → ((j : ℕ) → j < length row → get_or row j 0 ≡ length (of_size n (k + j)))
    → total row ≡ sizes_from n (length row) k
unfolding total sizes_from
total_sizes n k [] e = refl
total_sizes n k (x ∷ xs) e =
    ap₂ (λ (y z : ℕ). y + z) (e 0 (omega arith) ∙ ap (λ (j : ℕ). length (of_size n j)) (add-zero k))
    (total_sizes n (suc k) xs
    (λ j h. e (suc j) (omega arith) ∙ ap (λ (i : ℕ). length (of_size n i)) (omega arith)))

-- a row that is right for each size up to the bound is right for every size, and adds up to all sets
counted : (n : ℕ) (row : List ℕ) → n ≤ column_bound → length row ≡ suc column_bound
    → ((k : ℕ) → k ≤ column_bound → get_or row k 0 ≡ length (of_size n k)) → Counts n row
counted n row h l e = record {
  sizes = l;
  numbers = λ k.
      elim (dec_lt column_bound k) [
        | yes p ↦ get_or-eq_default row 0 (omega arith) ∙ sym (length_over n k (omega arith))
        | no p ↦ e k (omega arith)
      ];
  sum =
      total_sizes n 0 row (λ k i. e k (omega arith) ∙ ap (λ (j : ℕ). length (of_size n j)) (sym (zero-add k)))
      ∙ ap (λ (m : ℕ). sizes_from n m 0) l ∙ sizes_sum n column_bound h;
}

-- a row in between, from the last size down: the sizes passed have the new numbers, the others the old
pub record Between (n k : ℕ) (row : List ℕ) : Type 0 where
  pub sizes : length row ≡ suc column_bound
  pub inside : k ≤ column_bound
  pub old : (j : ℕ) → j ≤ k → get_or row j 0 ≡ length (of_size n j)
  pub new : (j : ℕ) → k < j → j ≤ column_bound → get_or row j 0 ≡ length (of_size (suc n) j)

-- the row of no column
pub counts_zero : (w : ℕ) → w ≡ suc column_bound → Counts 0 (set (replicate w 0) 0 1)
counts_zero zero e = absurd (omega arith)
counts_zero (suc v) e = counted 0 _ (omega arith) (ap suc (length-replicate v 0) ∙ e) number
  where
    number : (k : ℕ) → k ≤ column_bound → get_or (set (replicate (suc v) 0) 0 1) k 0 ≡ length (of_size 0 k)
    number zero l = sym (length_none 0)
    number (suc k) l = get_or-replicate v k 0 0 (omega arith) ∙ sym (length_over 0 (suc k) (omega arith))

-- the first of the sizes, one size more, and all of them
pub between_begun : (n : ℕ) (row : List ℕ) → Counts n row → Between n column_bound row
between_begun n row c = record {
  sizes = c.sizes;
  inside = omega arith;
  old = λ j h. c.numbers j;
  new = λ j h l. absurd (omega arith);
}

one_more : (n k : ℕ) → 0 < k → length (of_size n k) + length (of_size n (k - 1)) ≡ length (of_size (suc n) k)
one_more n zero h = absurd (omega arith)
one_more n (suc k) h =
    let e : suc k - 1 ≡ k = omega arith in
    ap (λ (i : ℕ). length (of_size n (suc k)) + length (of_size n i)) e ∙ sym (length_suc_suc n k)

pub between_more : (n k : ℕ) (row : List ℕ) → 0 < k → Between n k row
    → Between n (k - 1) (set row k (get_or row k 0 + get_or row (k - 1) 0))
between_more n k row p b = record {
  sizes = length-set row k (get_or row k 0 + get_or row (k - 1) 0) ∙ b.sizes;
  inside = omega (arith, b.inside);
  old = λ j h. get_or-set_other row k j _ 0 (omega arith) ∙ b.old j (omega arith);
  new = λ j h l.
      elim (ℕ_discrete j k) [
        | yes e ↦ ap (λ (i : ℕ). get_or (set row k (get_or row k 0 + get_or row (k - 1) 0)) i 0) e
            ∙ get_or-set_same row k _ 0 (omega (arith, b.sizes, b.inside))
            ∙ ap₂ (λ (x y : ℕ). x + y) (b.old k (omega arith)) (b.old (k - 1) (omega arith))
            ∙ one_more n k p ∙ ap (λ (i : ℕ). length (of_size (suc n) i)) (sym e)
        | no v ↦ get_or-set_other row k j _ 0 v ∙ b.new j (omega arith) l
      ];
}

pub between_done : (n k : ℕ) (row : List ℕ) → n < column_bound → k ≤ 0 → Between n k row → Counts (suc n) row
between_done n k row l h b =
    counted (suc n) row (omega arith) b.sizes
    (λ j i.
    elim (ℕ_discrete j 0) [
      | yes e ↦ b.old j (omega arith) ∙ ap (λ (m : ℕ). length (of_size n m)) e ∙ length_none n
          ∙ sym (length_none (suc n)) ∙ ap (λ (m : ℕ). length (of_size (suc n) m)) (sym e)
      | no v ↦ b.new j (omega arith) i
    ])

-- row after row: first the one of no column, then one more
pub rows_begun : (rows : List (List ℕ)) (row : List ℕ) → length rows ≡ suc column_bound → Counts 0 row
    → CountsUpTo 0 (set rows 0 row)
rows_begun rows row e c = record {
  columns = length-set rows 0 row ∙ e;
  row = λ m h.
      subst₂ Counts (omega arith)
      (sym (get_or-set_same rows 0 row [] (omega arith)) ∙ ap (λ (i : ℕ). get_or (set rows 0 row) i []) (omega arith)) c;
}

pub rows_more : (n : ℕ) (rows : List (List ℕ)) (row : List ℕ) → n < column_bound → CountsUpTo n rows
    → Counts (suc n) row → CountsUpTo (suc n) (set rows (suc n) row)
rows_more n rows row h u c = record {
  columns = length-set rows (suc n) row ∙ u.columns;
  row = λ m l.
      elim (ℕ_discrete m (suc n)) [
        | yes e ↦ subst (λ (i : ℕ). Counts i (get_or (set rows (suc n) row) i [])) (sym e)
            (subst (Counts (suc n)) (sym (get_or-set_same rows (suc n) row [] (omega (arith, u.columns)))) c)
        | no v ↦ subst (Counts m) (sym (get_or-set_other rows (suc n) m row [] v)) (u.row m (omega arith))
      ];
}

-- the row of 6 columns, counted set by set
pub six_columns : map (λ (k : ℕ). length (of_size 6 k)) (0 ∷ 1 ∷ 2 ∷ 3 ∷ 4 ∷ 5 ∷ 6 ∷ 7 ∷ [])
    ≡ 1 ∷ 6 ∷ 15 ∷ 20 ∷ 15 ∷ 6 ∷ 1 ∷ 0 ∷ []
unfolding of_size of_size_from if_eq ones
six_columns = refl
