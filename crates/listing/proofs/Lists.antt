-- A list that is overwritten from its start, element by element: what is written stands before what was there.
use Prim.Native.Nat.{◌<◌}
use native.Mathlib.Nat.{not-suc-le-zero, le_of_suc-le-suc}
use mathlib.Core.Path.{◌≡◌, refl, ap}
use mathlib.Core.List.{List, [], ◌∷◌, ◌++◌}
use lib.ListN.{length, drop, set}

-- the next element
pub set_next : {A : Type 0} (es l : List A) (e : A) → length es < length l
    → set (es ++ drop (length es) l) (length es) e ≡ (es ++ e ∷ []) ++ drop (length (es ++ e ∷ [])) l
set_next [] [] e h = absurd (not-suc-le-zero h)
set_next [] (x ∷ l) e h = refl
set_next (y ∷ es) [] e h = absurd (not-suc-le-zero h)
set_next {A} (y ∷ es) (x ∷ l) e h = ap (λ (t : List A). y ∷ t) (set_next es l e (le_of_suc-le-suc h))
