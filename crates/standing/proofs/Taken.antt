-- The rows that are taken by a shape are those that fit it; and without one all are taken.
use Prim.Native.Nat.{ℕ, ◌≤◌, ◌<◌}
use mathlib.Core.Path.{◌≡◌, sym, subst}
use mathlib.Core.Bool.{true, false, ◌&&◌}
use mathlib.Core.Logic.{◌↔◌}
use mathlib.Core.List.{List, [], ◌∷◌}
use native.Mathlib.Decide.{dec_lt}
use native.Mathlib.Omega.{arith}
use lib.Dec.{T, eqb, ltb, ltb→lt, lt→ltb}
use Rattle.columns.proofs.Test.{if_lt_yes, if_lt_no}
use Rattle.model.specs.Bounds.{missing}
use Rattle.model.specs.Catalogue.{tables, columns, parent}
use Rattle.model.specs.Check.{Accepted}
use Rattle.model.specs.Forest.{Cells, Forest, none, tree, ColumnsBelow, FitsIn}
use Rattle.model.specs.Form.{capped}
use Rattle.model.specs.Convert.{are_below, fits_tag, taken}
use Rattle.model.proofs.Check.{accepted_tables}
use Rattle.model.proofs.Truth.{and_is, eqb_is}
use Rattle.standing.specs.Tags.{TakenIn}

-- a number that some table or cell can have stays as it is
capped_below : (n : ℕ) → n < missing → capped n ≡ n
unfolding capped
capped_below n l = if_lt_yes missing l

-- and any other becomes none of these
capped_above : (n : ℕ) → missing ≤ n → capped n ≡ missing
unfolding capped
capped_above n l = if_lt_no n l

capped_is : (n : ℕ) → capped n < missing → capped n ≡ n
capped_is n l = at (dec_lt n missing)
  where
    at : Dec (n < missing) → capped n ≡ n
    at (yes h) = capped_below n h
    at (no h) = absurd (omega (arith, capped_above n (omega arith)))

-- the columns of a tag that fits
below_is : (c : ℕ) (cs : Cells) → T (are_below c cs) ↔ ColumnsBelow c cs
unfolding are_below
below_is c [] = (λ t. tt, λ t. tt)
below_is c (x ∷ cs) = (
  λ t. let h = (and_is (ltb x.0 c) (are_below c cs)).0 t in (ltb→lt x.0 c h.0, (below_is c cs).0 h.1),
  λ h. (and_is (ltb x.0 c) (are_below c cs)).1 (lt→ltb x.0 c h.0, (below_is c cs).1 h.1),
)

-- what it is for a tag to fit
fits_is : (shape : List ℕ) (up n : ℕ) (cs : Cells) → T (fits_tag shape up n cs)
    ↔ ((n < tables shape) × ((parent shape n ≡ up) × ColumnsBelow (columns shape n) cs))
unfolding fits_tag
fits_is shape up n cs = (
  λ t.
      let h = (and_is (ltb n (tables shape) && eqb (parent shape n) up) (are_below (columns shape n) cs)).0 t in
      let g = (and_is (ltb n (tables shape)) (eqb (parent shape n) up)).0 h.0 in (
        ltb→lt n (tables shape) g.0,
        ((eqb_is (parent shape n) up).0 g.1, (below_is (columns shape n) cs).0 h.1),
      ),
  λ h.
      (and_is (ltb n (tables shape) && eqb (parent shape n) up) (are_below (columns shape n) cs)).1 (
        (and_is (ltb n (tables shape)) (eqb (parent shape n) up)).1
            (lt→ltb n (tables shape) h.0, (eqb_is (parent shape n) up).1 h.1.0),
        (below_is (columns shape n) cs).1 h.1.1,
      ),
)

-- with no shape, all are taken
pub all_taken : (shape : List ℕ) (up : ℕ) (f : Forest) → TakenIn (taken false shape) up f
unfolding taken
all_taken shape up none = tt
all_taken shape up (tree n cs inside after) =
    (tt, (all_taken shape (capped n) inside, all_taken shape up after))

module _ (shape : List ℕ) (ok : Accepted shape) where
  -- those that are taken by a shape fit it, and the other way round
  pub taken_fits : (up : ℕ) (f : Forest) → TakenIn (taken true shape) up f → FitsIn shape up f
  unfolding taken
  taken_fits up none h = tt
  taken_fits up (tree n cs inside after) h =
      let g = (fits_is shape up (capped n) cs).0 h.0 in
      let few = accepted_tables shape ok in
      let e = capped_is n (omega arith) in
      subst (λ (k : ℕ). (k < tables shape) × ((parent shape k ≡ up) × (ColumnsBelow (columns shape k) cs
      × (FitsIn shape k inside × FitsIn shape up after)))) e
      (g.0, (g.1.0, (g.1.1, (taken_fits (capped n) inside h.1.0, taken_fits up after h.1.1))))

  pub fits_taken : (up : ℕ) (f : Forest) → FitsIn shape up f → TakenIn (taken true shape) up f
  unfolding taken
  fits_taken up none h = tt
  fits_taken up (tree n cs inside after) h =
      let few = accepted_tables shape ok in
      let e = capped_below n (omega arith) in
      subst (λ (k : ℕ). T (fits_tag shape up k cs) × (TakenIn (taken true shape) k inside
      × TakenIn (taken true shape) up after)) (sym e) (
        (fits_is shape up n cs).1 (h.0, (h.1.0, h.1.1.0)),
        (fits_taken n inside h.1.1.1.0, fits_taken up after h.1.1.1.1),
      )
