-- Agreement of a target's rows is an equivalence, for any bytes. A missing cell agrees only with itself
-- (`missing_alone`), and with itself it does agree.
use Prim.Native.Nat.{ℕ, ◌-◌}
use mathlib.Core.Path.{◌≡◌, refl, sym, ap, ◌∙◌}
use mathlib.Core.Logic.{◌⊎◌, inl, inr}
use mathlib.Core.List.{List}
use mathlib.Core.Bool.{not, ◌&&◌}
use lib.Dec.{T, eqb}
use Rattle.model.specs.Bounds.{missing}
use Rattle.model.specs.Catalogue.{cell, inherited}
use Rattle.model.specs.View.{Equivalence}
use Rattle.model.specs.Target.{owner, ancestor, cells_agree, agree_at, present_at, view}
use Rattle.model.proofs.Truth.{and_is, or_is, not_is, eqb_is}

-- what two cells that agree say, as a proposition
abbrev CellsAlike : ℕ → ℕ → ℕ → ℕ → Type 0
CellsAlike p q x y = (p ≡ q) ⊎ ((x ≡ missing → ⊥) × (x ≡ y))

alike : (p q x y : ℕ) → T (cells_agree p q x y) → CellsAlike p q x y
unfolding cells_agree
alike p q x y t = at ((or_is (eqb p q) (not (eqb x missing) && eqb x y)).0 t)
  where
    at : T (eqb p q) ⊎ T (not (eqb x missing) && eqb x y) → CellsAlike p q x y
    at (inl e) = inl ((eqb_is p q).0 e)
    at (inr r) =
        let h = (and_is (not (eqb x missing)) (eqb x y)).0 r in
        inr (λ e. (not_is (eqb x missing)).0 h.0 ((eqb_is x missing).1 e), (eqb_is x y).0 h.1)

agree : (p q x y : ℕ) → CellsAlike p q x y → T (cells_agree p q x y)
unfolding cells_agree
agree p q x y (inl e) = (or_is (eqb p q) (not (eqb x missing) && eqb x y)).1 (inl ((eqb_is p q).1 e))
agree p q x y (inr h) =
    (or_is (eqb p q) (not (eqb x missing) && eqb x y)).1
    (inr ((and_is (not (eqb x missing)) (eqb x y)).1
    ((not_is (eqb x missing)).1 (λ t. h.0 ((eqb_is x missing).0 t)), (eqb_is x y).1 h.1)))

-- for any cells f of the rows
module _ (f : ℕ → ℕ) where
  reflexive : (p : ℕ) → T (cells_agree p p (f p) (f p))
  reflexive p = agree p p (f p) (f p) (inl refl)

  symmetric : (p q : ℕ) → T (cells_agree p q (f p) (f q)) → T (cells_agree q p (f q) (f p))
  symmetric p q t = agree q p (f q) (f p) (at (alike p q (f p) (f q) t))
    where
      at : CellsAlike p q (f p) (f q) → CellsAlike q p (f q) (f p)
      at (inl e) = inl (sym e)
      at (inr h) = inr (λ e. h.0 (h.1 ∙ e), sym h.1)

  transitive : (p q r : ℕ) → T (cells_agree p q (f p) (f q)) → T (cells_agree q r (f q) (f r))
      → T (cells_agree p r (f p) (f r))
  transitive p q r t u = agree p r (f p) (f r) (at (alike p q (f p) (f q) t) (alike q r (f q) (f r) u))
    where
      at : CellsAlike p q (f p) (f q) → CellsAlike q r (f q) (f r) → CellsAlike p r (f p) (f r)
      at (inl e) (inl g) = inl (e ∙ g)
      at (inl e) (inr k) = inr (λ m. k.0 (sym (ap f e) ∙ m), ap f e ∙ k.1)
      at (inr h) (inl g) = inr (h.0, h.1 ∙ ap f g)
      at (inr h) (inr k) = inr (h.0, h.1 ∙ k.1)

-- where the cell of a visible column is missing in a row, only rows that reach the same row of the column's table agree
-- with it there
pub missing_alone : (cat : List ℕ) (target v p q : ℕ) → (T (present_at cat target v p) → ⊥)
    → T (agree_at cat target v p q)
    → ancestor cat (owner cat target v) target p ≡ ancestor cat (owner cat target v) target q
unfolding agree_at present_at
missing_alone cat target v p q lacks t = at (alike x y (cell cat a x c) (cell cat a y c) t)
  where
    a : ℕ
    a = owner cat target v

    c : ℕ
    c = v - inherited cat a

    x : ℕ
    x = ancestor cat a target p

    y : ℕ
    y = ancestor cat a target q

    at : CellsAlike x y (cell cat a x c) (cell cat a y c) → x ≡ y
    at (inl e) = e
    at (inr h) =
        absurd
        (lacks ((not_is (eqb (cell cat a x c) missing)).1 (λ m. h.0 ((eqb_is (cell cat a x c) missing).0 m))))

pub view_equivalence : (cat : List ℕ) (i : ℕ) → Equivalence (view cat i)
unfolding agree_at
view_equivalence cat i =
    record {
      reflexive = λ v p. reflexive (cells v) (row v p);
      symmetric = λ v p q. symmetric (cells v) (row v p) (row v q);
      transitive = λ v p q r. transitive (cells v) (row v p) (row v q) (row v r);
    }
  where
    -- the row of the column's table that a row reaches, and the column's cell in a row there
    row : ℕ → ℕ → ℕ
    row v p = ancestor cat (owner cat i v) i p

    cells : ℕ → ℕ → ℕ
    cells v x = cell cat (owner cat i v) x (v - inherited cat (owner cat i v))
