-- The rank of a set of n columns: the index at which it stands in the listing order. Ranks are below 2^n and grow with
-- the order.
use Prim.Native.Nat.{ℕ, suc, ◌^◌, ◌<◌}
use mathlib.Core.Path.{◌≡◌, sym, ◌∙◌, subst}
use mathlib.Core.List.Memᴰ
use mathlib.Core.List.{List, [], ◌∷◌, Memᴰ}
use native.Mathlib.Decide.{ℕ_discrete}
use native.Mathlib.Omega.{arith}
use lib.ListN.{length}
use Rattle.columns.specs.Order.{Precedes, Ordered, in_order}
use Rattle.columns.specs.Test.{if_eq}
use Rattle.columns.proofs.Test.{if_eq_yes, if_eq_no}
use Rattle.columns.proofs.Lists.{precedes_irrefl, precedes_asym, later}
use Rattle.columns.proofs.Order.{in_order_mem, ordered_in_order}
use Rattle.columns.proofs.Pascal.{length_in_order}

-- the index of x in a list
unfoldable pub index_in : List ℕ → ℕ → ℕ
index_in [] x = 0
index_in (y ∷ ys) x = if_eq x y 0 (suc (index_in ys x))

unfoldable pub rank_of : ℕ → ℕ → ℕ
rank_of n x = index_in (in_order n) x

-- x is the first of a list, or among the later ones
index_here : (y : ℕ) (ys : List ℕ) (x : ℕ) → x ≡ y → index_in (y ∷ ys) x ≡ 0
unfolding index_in
index_here y ys x e = if_eq_yes _ e

index_there : (y : ℕ) (ys : List ℕ) (x : ℕ) → (x ≡ y → ⊥) → index_in (y ∷ ys) x ≡ suc (index_in ys x)
unfolding index_in
index_there y ys x n = if_eq_no 0 n

index_lt : (l : List ℕ) (x : ℕ) → Memᴰ x l → index_in l x < length l
index_lt [] x m = absurd (Memᴰ.not-nil m)
index_lt (y ∷ ys) x m =
    elim (ℕ_discrete x y) [
      | yes e ↦ omega (arith, index_here y ys x e)
      | no n ↦ omega (arith, index_there y ys x n, index_lt ys x (later x y ys m n))
    ]

-- in an ordered list the index grows with the order
index_grows : (l : List ℕ) (x y : ℕ) → Ordered l → Memᴰ x l → Memᴰ y l → Precedes x y
    → index_in l x < index_in l y
index_grows [] x y o mx my p = absurd (Memᴰ.not-nil mx)
index_grows (z ∷ zs) x y o mx my p = go (ℕ_discrete x z) (ℕ_discrete y z) (index_grows zs x y o.1)
  where
    go : Dec (x ≡ z) → Dec (y ≡ z) → (Memᴰ x zs → Memᴰ y zs → Precedes x y → index_in zs x < index_in zs y)
        → index_in (z ∷ zs) x < index_in (z ∷ zs) y
    go (yes e) (yes f) ih = absurd (precedes_irrefl x (subst (λ (w : ℕ). Precedes x w) (f ∙ sym e) p))
    go (yes e) (no f) ih = omega (arith, index_here z zs x e, index_there z zs y f)
    go (no e) (yes f) ih =
        absurd (precedes_asym x y p (subst (λ (w : ℕ). Precedes w x) (sym f) (o.0 x (later x z zs mx e))))
    go (no e) (no f) ih =
        omega (arith, index_there z zs x e, index_there z zs y f, ih (later x z zs mx e) (later y z zs my f) p)

-- so a set's rank is below the number of sets and grows with the order
pub rank_lt : (n x : ℕ) → x < 2 ^ n → rank_of n x < 2 ^ n
unfolding rank_of
rank_lt n x h = let l = index_lt (in_order n) x (in_order_mem n x h) in omega (arith, length_in_order n)

pub rank_grows : (n x y : ℕ) → x < 2 ^ n → y < 2 ^ n → Precedes x y → rank_of n x < rank_of n y
unfolding rank_of
rank_grows n x y hx hy p =
    index_grows (in_order n) x y (ordered_in_order n) (in_order_mem n x hx) (in_order_mem n y hy) p
