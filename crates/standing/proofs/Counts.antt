-- How often a table occurs: in some rows and others, and in a forest by its tables or by its tags.
use Prim.Native.Nat.{ℕ, suc, ◌+◌}
use mathlib.Core.Path.{◌≡◌, refl, sym, ap}
use mathlib.Core.Bool.{Bool, true, false}
use mathlib.Core.List.{List, [], ◌∷◌, ◌++◌}
use native.Mathlib.Omega.{arith}
use lib.Dec.{eqb}
use Rattle.columns.specs.Test.{pick, if_eq}
use Rattle.columns.proofs.Test.{if_eq_yes}
use Rattle.model.specs.Forest.{Forest, none, tree, times, tables_in}
use Rattle.model.specs.Convert.{Tag, count_of}
use Rattle.standing.specs.Tags.{tags_of}

-- one more or not is a sum
pub one_more : (a b x : ℕ) → if_eq a b (suc x) x ≡ if_eq a b 1 0 + x
unfolding if_eq
one_more a b x = at (eqb a b)
  where
    at : (t : Bool) → pick t (suc x) x ≡ pick t 1 0 + x
    at true = omega arith
    at false = omega arith

-- in some rows and others it occurs as often as in both together
pub times_append : (n : ℕ) (xs ys : List ℕ) → times n (xs ++ ys) ≡ times n xs + times n ys
unfolding times
times_append n [] ys = omega arith
times_append n (x ∷ xs) ys =
    omega (arith, one_more x n (times n (xs ++ ys)), one_more x n (times n xs), times_append n xs ys)

-- a row more of the table that is counted
pub times_more : (n a : ℕ) (before : List ℕ) → a ≡ n → times a (before ++ (n ∷ [])) ≡ suc (times n before)
unfolding times
times_more n a before e =
    let one : times a (n ∷ []) ≡ 1 = if_eq_yes 0 (sym e) in
    let same : times a before ≡ times n before = ap (λ (k : ℕ). times k before) e in
    omega (arith, times_append a before (n ∷ []))

-- the same of tags
count_append : (n : ℕ) (xs ys : List Tag) → count_of n (xs ++ ys) ≡ count_of n xs + count_of n ys
unfolding count_of
count_append n [] ys = omega arith
count_append n (x ∷ xs) ys =
    omega (arith, one_more x.0 n (count_of n (xs ++ ys)), one_more x.0 n (count_of n xs), count_append n xs ys)

-- the tags of a forest are of its tables
pub count_tags : (n : ℕ) (f : Forest) → count_of n (tags_of f) ≡ times n (tables_in f)
unfolding count_of times tags_of tables_in
count_tags n none = refl
count_tags n (tree m cs inside after) =
    omega (
      arith,
      one_more m n (count_of n (tags_of inside ++ tags_of after)),
      one_more m n (times n (tables_in inside ++ tables_in after)),
      count_append n (tags_of inside) (tags_of after),
      times_append n (tables_in inside) (tables_in after),
      count_tags n inside,
      count_tags n after,
    )
