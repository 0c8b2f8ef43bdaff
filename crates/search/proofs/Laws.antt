-- Laws of the search: what the tests say, how marks are kept, and how far the search has come.
use Prim.Native.Nat.{ℕ, ◌+◌, ◌≤◌, ◌<◌}
use mathlib.Core.Path.{◌≡◌, refl, sym, ap, subst, ◌∙◌}
use mathlib.Core.Logic.{◌⊎◌, inl, inr}
use mathlib.Core.List.{List}
use mathlib.Core.Bool.{Bool, true, false, not, ◌&&◌}
use native.Mathlib.Decide.{ℕ_discrete}
use native.Mathlib.Omega.{arith}
use borrow.Author.Tests.{eq-eqb, ne_eqb}
use lib.Dec.{eqb}
use lib.ListN.{get_or, length, length-set, set}
use lib.Seq.{get_or-set_same, get_or-set_other}
use Rattle.columns.specs.Test.{pick}
use Rattle.model.specs.Bounds.{row, row_bound}
use Rattle.leaders.specs.Keys.{key_at}
use Rattle.search.specs.Strays.{same_right, strays, follows, LowerLeaders, MarkedMore, MarkedBelow, row_after}
use Rattle.search.specs.Strays.{NoneBefore}

-- the test of a row: is it led by p, and does it stray?
module _ (keys leaders : List ℕ) (a q : ℕ) where
  pub follows_not : (p : ℕ) → (get_or leaders q 0 ≡ p → ⊥) → false ≡ follows keys leaders a p q
  unfolding follows
  follows_not p n = sym (ap (λ (t : Bool). t && strays keys leaders a q) (ne_eqb (get_or leaders q 0) p n))

  pub follows_strays : (p : ℕ) → get_or leaders q 0 ≡ p → strays keys leaders a q ≡ follows keys leaders a p q
  unfolding follows
  follows_strays p e = sym (ap (λ (t : Bool). t && strays keys leaders a q) (eq-eqb (get_or leaders q 0) p e))

  pub follows_is : (p : ℕ) {r : Bool} → r ≡ follows keys leaders a p q → r ≡ true
      → (get_or leaders q 0 ≡ p) × (strays keys leaders a q ≡ true)
  unfolding follows
  follows_is p f e = at (ℕ_discrete (get_or leaders q 0) p)
    where
      at : Dec (get_or leaders q 0 ≡ p) → (get_or leaders q 0 ≡ p) × (strays keys leaders a q ≡ true)
      at (yes g) = (g, follows_strays p g ∙ sym f ∙ e)
      at (no n) = let k : ◌≡◌ {A = ℕ} 0 1 = cc (follows_not p n) in absurd (omega arith)

-- the marks
module _ (keys leaders : List ℕ) (a : ℕ) where
  pub marked_one : (q : ℕ) (marks : List Bool) → length marks ≡ row_bound → get_or leaders q 0 < row_bound
      → MarkedMore keys leaders a q marks (set marks (get_or leaders q 0) true)
  marked_one q marks l h =
      record {
        long = length-set marks (get_or leaders q 0) true ∙ l;
        kept = λ i m. at i m (ℕ_discrete i (get_or leaders q 0));
        more = λ s. get_or-set_same marks (get_or leaders q 0) true false (omega arith);
      }
    where
      at : (i : ℕ) → get_or marks i false ≡ true → Dec (i ≡ get_or leaders q 0)
          → get_or (set marks (get_or leaders q 0) true) i false ≡ true
      at i m (yes e) =
          subst (λ (j : ℕ). get_or (set marks (get_or leaders q 0) true) j false ≡ true) (sym e)
          (get_or-set_same marks (get_or leaders q 0) true false (omega arith))
      at i m (no n) = get_or-set_other marks (get_or leaders q 0) i true false n ∙ m

-- the row after p
pub after_marked : (marks : List Bool) (p end : ℕ) → get_or marks p false ≡ true → p + 1 ≡ row_after marks p end
unfolding row_after
after_marked marks p end e = sym (ap (λ (t : Bool). pick t (p + 1) end) e)

pub after_end : (marks : List Bool) (p end : ℕ) → get_or marks p false ≡ false → end ≡ row_after marks p end
unfolding row_after
after_end marks p end e = sym (ap (λ (t : Bool). pick t (p + 1) end) e)

-- how far the search has come, where no leader is above its row and each that a row strays from is marked
module _ (keys leaders : List ℕ) (a end : ℕ) (led : LowerLeaders end leaders) where
  -- a row does not stray from itself
  apart : (r : ℕ) → strays keys leaders a r ≡ true → get_or leaders r 0 ≡ r → ⊥
  unfolding strays
  apart r s e = at (eqb a row) (ap (λ (p : ℕ). not (same_right keys a p r)) (sym e) ∙ s)
    where
      at : (t : Bool) → not (pick t (eqb r r) (eqb (key_at keys a r) (key_at keys a r))) ≡ true → ⊥
      at true f = let k : ◌≡◌ {A = ℕ} 0 1 = cc (eq-eqb r r refl) in omega arith
      at false f = let k : ◌≡◌ {A = ℕ} 0 1 = cc (eq-eqb (key_at keys a r) (key_at keys a r) refl) in omega arith

  pub before_begun : (marks : List Bool) (p q : ℕ) → MarkedBelow keys leaders a end marks → q ≡ row_after marks p end
      → p < end → NoneBefore keys leaders a end p 0 → NoneBefore keys leaders a end p q
  before_begun marks p q marked e l h r k s = at (h r k s)
    where
      first : p ≡ get_or leaders r 0 → q ≤ r
      first f =
          let m : get_or marks p false ≡ true = subst (λ (j : ℕ). get_or marks j false ≡ true) (sym f) (marked r k s) in
          let low = led.lower r k in
          omega (arith, after_marked marks p end m, apart r s)

      at : (p < get_or leaders r 0) ⊎ ((p ≡ get_or leaders r 0) × (0 ≤ r))
          → (p < get_or leaders r 0) ⊎ ((p ≡ get_or leaders r 0) × (q ≤ r))
      at (inl g) = inl g
      at (inr (f, z)) = inr (f, first f)

  pub before_more : (p q : ℕ) {t : Bool} → t ≡ follows keys leaders a p q → t ≡ false
      → NoneBefore keys leaders a end p q → NoneBefore keys leaders a end p (q + 1)
  before_more p q f e h r k s = at (h r k s)
    where
      other : p ≡ get_or leaders r 0 → q ≡ r → ⊥
      other g m =
          let w = follows_strays keys leaders a r p (sym g) in
          let f' = f ∙ ap (follows keys leaders a p) m in
          let k : ◌≡◌ {A = ℕ} 0 1 = cc in
          omega arith

      at : (p < get_or leaders r 0) ⊎ ((p ≡ get_or leaders r 0) × (q ≤ r))
          → (p < get_or leaders r 0) ⊎ ((p ≡ get_or leaders r 0) × (q + 1 ≤ r))
      at (inl g) = inl g
      at (inr (g, l)) = inr (g, omega (arith, other g))
