-- Leaders and keys by computation: four rows of two members.
use Prim.Native.Nat.{ℕ, zero, suc, ◌-◌}
use mathlib.Core.Path.{◌≡◌, refl}
use mathlib.Core.Bool.{true}
use mathlib.Core.List.{List, [], ◌∷◌, ◌++◌}
use lib.Dec.{eqb}
use lib.ListN.{get_or, replicate}
use Rattle.model.specs.Bounds.{row_bound}
use Rattle.model.specs.View.{View, agree_on, all_below}
use Rattle.model.specs.First.{first_from}
use Rattle.leaders.specs.Leaders.{leader_of}
use Rattle.leaders.specs.Keys.{key_view, first_same}

-- what the rows have on member 0, and on member 1
cells : ℕ → List ℕ
cells zero = 7 ∷ 8 ∷ 7 ∷ 8 ∷ []
cells (suc k) = 5 ∷ 5 ∷ 6 ∷ 5 ∷ []

four : View
four =
    record {
      rows = 4;
      members = 2;
      agree = λ k p q. eqb (get_or (cells k) p 0) (get_or (cells k) q 0);
      present = λ k p. true;
    }

leaders : View → ℕ → List ℕ
leaders v x = leader_of v x 0 ∷ leader_of v x 1 ∷ leader_of v x 2 ∷ leader_of v x 3 ∷ []

-- on no member, on each, and on both
on_none : leaders four 0 ≡ 0 ∷ 0 ∷ 0 ∷ 0 ∷ []
unfolding leaders four cells leader_of first_from agree_on all_below
on_none = refl

on_first : leaders four 1 ≡ 0 ∷ 1 ∷ 0 ∷ 1 ∷ []
unfolding leaders four cells leader_of first_from agree_on all_below
on_first = refl

on_second : leaders four 2 ≡ 0 ∷ 0 ∷ 2 ∷ 0 ∷ []
unfolding leaders four cells leader_of first_from agree_on all_below
on_second = refl

on_both : leaders four 3 ≡ 0 ∷ 1 ∷ 2 ∷ 1 ∷ []
unfolding leaders four cells leader_of first_from agree_on all_below
on_both = refl

-- the keys of the second member stand behind the places of all rows of the first
keys : List ℕ
keys = (0 ∷ 1 ∷ 0 ∷ 1 ∷ []) ++ (replicate (row_bound - 4) 9 ++ (0 ∷ 0 ∷ 2 ∷ 0 ∷ []))

first_of_keys : first_same keys 3 ≡ 1
unfolding keys first_same first_from
first_of_keys = refl

by_keys : leaders (key_view keys 2 4) 3 ≡ 0 ∷ 1 ∷ 2 ∷ 1 ∷ []
unfolding keys leaders leader_of first_from agree_on all_below
by_keys = refl
