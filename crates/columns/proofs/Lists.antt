-- Lists of sets in an order: what stands first, what stands after a set, and what stands at an index.
use Rattle.std.specs.Prelude.{Some, None}
use Prim.Native.Nat.{ℕ, zero, suc, ◌≤◌, ◌<◌}
use mathlib.Core.Path.{◌≡◌, refl, sym, ap, ◌∙◌, subst}
use mathlib.Core.Logic.{◌⊎◌, inl, inr, ⊎_elim}
use mathlib.Core.List.Memᴰ
use mathlib.Core.List.{List, [], ◌∷◌, ◌++◌, Memᴰ}
use native.Mathlib.Decide.{ℕ_discrete}
use native.Mathlib.Omega.{arith}
use lib.ListN.{length, get_or}
use Rattle.columns.specs.Set.{set_of}
use Rattle.columns.specs.Order.{Precedes, Ordered, Once, first, after, nth}
use Rattle.columns.specs.declared.ColumnSet.{ColumnSet}
use Rattle.columns.proofs.Test.{if_eq_yes, if_eq_no}

-- the order of two sets
pub precedes_irrefl : (x : ℕ) → Precedes x x → ⊥
precedes_irrefl x p = ⊎_elim (λ h. omega arith) (λ h. omega arith) p

pub precedes_trans : (x y z : ℕ) → Precedes x y → Precedes y z → Precedes x z
precedes_trans x y z (inl p) (inl q) = inl (omega arith)
precedes_trans x y z (inl p) (inr q) = inl (omega arith)
precedes_trans x y z (inr p) (inl q) = inl (omega arith)
precedes_trans x y z (inr p) (inr q) = inr (p.0 ∙ q.0, omega arith)

pub precedes_asym : (x y : ℕ) → Precedes x y → Precedes y x → ⊥
precedes_asym x y p q = precedes_irrefl x (precedes_trans x y x p q)

-- lists in that order
pub ordered_once : (l : List ℕ) → Ordered l → Once l
ordered_once [] o = tt
ordered_once (x ∷ xs) o = (λ m. precedes_irrefl x (o.0 x m), ordered_once xs o.1)

pub ordered_append : (l r : List ℕ) → Ordered l → Ordered r
    → ((x y : ℕ) → Memᴰ x l → Memᴰ y r → Precedes x y) → Ordered (l ++ r)
ordered_append [] r ol or f = or
ordered_append (x ∷ xs) r ol or f = (
  λ y m. ⊎_elim (ol.0 y) (f x y (Memᴰ.head refl)) (Memᴰ.append_cases xs m),
  ordered_append xs r ol.1 or (λ a b ma mb. f a b (Memᴰ.tail ma) mb),
)

-- what stands first
first_none : (l : List ℕ) → ((z : ℕ) → Memᴰ z l → ⊥) → first l ≡ None
unfolding first
first_none [] f = refl
first_none (z ∷ zs) f = absurd (f z (Memᴰ.head refl))

first_least : (l : List ℕ) (y : ℕ) → Ordered l → Memᴰ y l
    → ((z : ℕ) → Memᴰ z l → Precedes z y → ⊥)
    → first l ≡ Some (set_of y)
unfolding first
first_least [] y o m f = absurd (Memᴰ.not-nil m)
first_least (z ∷ zs) y o m f =
    ⊎_elim (λ (e : y ≡ z). ap (λ (i : ℕ). Some (set_of i)) (sym e))
    (λ (t : Memᴰ y zs). absurd (f z (Memᴰ.head refl) (o.0 y t)))
    (Memᴰ.cases_cons m)

-- what stands after a set
after_here : (x y : ℕ) (ys : List ℕ) → x ≡ y → after x (y ∷ ys) ≡ first ys
unfolding after
after_here x y ys e = if_eq_yes (after x ys) e

after_there : (x y : ℕ) (ys : List ℕ) → (x ≡ y → ⊥) → after x (y ∷ ys) ≡ after x ys
unfolding after
after_there x y ys n = if_eq_no (first ys) n

pub after_absent : (x : ℕ) (l : List ℕ) → (Memᴰ x l → ⊥) → after x l ≡ None
unfolding after
after_absent x [] f = refl
after_absent x (y ∷ ys) f =
    after_there x y ys (λ e. f (Memᴰ.head e)) ∙ after_absent x ys (λ m. f (Memᴰ.tail m))

-- x is among the elements of a list but is not the first
pub later : (x y : ℕ) (ys : List ℕ) → Memᴰ x (y ∷ ys) → (x ≡ y → ⊥) → Memᴰ x ys
later x y ys m n = ⊎_elim (λ e. absurd (n e)) (λ t. t) (Memᴰ.cases_cons m)

-- nothing stands after the last
pub after_last : (l : List ℕ) (x : ℕ) → Ordered l → Memᴰ x l
    → ((z : ℕ) → Memᴰ z l → Precedes x z → ⊥)
    → after x l ≡ None
after_last [] x o m f = absurd (Memᴰ.not-nil m)
after_last (y ∷ ys) x o m f =
    elim (ℕ_discrete x y) [
      | yes e ↦ after_here x y ys e
          ∙ first_none ys (λ z t. f z (Memᴰ.tail t) (subst (λ (i : ℕ). Precedes i z) (sym e) (o.0 z t)))
      | no n ↦ after_there x y ys n ∙ after_last ys x o.1 (later x y ys m n) (λ z t. f z (Memᴰ.tail t))
    ]

-- after x stands the y that x precedes with nothing between
pub after_next : (l : List ℕ) (x y : ℕ) → Ordered l → Memᴰ x l → Memᴰ y l → Precedes x y
    → ((z : ℕ) → Memᴰ z l → Precedes x z → Precedes z y → ⊥) → after x l ≡ Some (set_of y)
after_next [] x y o mx my p f = absurd (Memᴰ.not-nil mx)
after_next (w ∷ ws) x y o mx my p f =
    elim (ℕ_discrete x w) [
      | yes e ↦ after_here x w ws e
          ∙ first_least ws y o.1
          (later y w ws my (λ q. precedes_irrefl y (subst (λ (i : ℕ). Precedes i y) (e ∙ sym q) p)))
          (λ z t. f z (Memᴰ.tail t) (subst (λ (i : ℕ). Precedes i z) (sym e) (o.0 z t)))
      | no n ↦ after_there x w ws n
          ∙ after_next ws x y o.1 (later x w ws mx n)
          (later y w ws my
          (λ q. precedes_asym x y p (subst (λ (i : ℕ). Precedes i x) (sym q) (o.0 x (later x w ws mx n)))))
          p (λ z t. f z (Memᴰ.tail t))
    ]

-- what stands at an index
pub nth_mem : (l : List ℕ) (i x : ℕ) → nth l i ≡ Some (set_of x) → Memᴰ x l
unfolding nth
nth_mem [] i x e = let z : ◌≡◌ {A = ℕ} 0 1 = cc in absurd (omega arith)
nth_mem (y ∷ ys) zero x e = Memᴰ.head (set_inj x y (sym e))
  where
    set_inj : (a b : ℕ) → Some (set_of a) ≡ Some (set_of b) → a ≡ b
    set_inj a b q = let s : set_of a ≡ set_of b = cc in ap (λ (c : ColumnSet). c.bits) s
nth_mem (y ∷ ys) (suc i) x e = Memᴰ.tail (nth_mem ys i x e)

pub nth_get_d : (l : List ℕ) (i : ℕ) → i < length l → nth l i ≡ Some (set_of (get_or l i 0))
unfolding nth
nth_get_d [] i h = absurd (omega arith)
nth_get_d (y ∷ ys) zero h = refl
nth_get_d (y ∷ ys) (suc i) h = nth_get_d ys i (omega arith)

pub nth_past : (l : List ℕ) (i : ℕ) → length l ≤ i → nth l i ≡ None
unfolding nth
nth_past [] i h = refl
nth_past (y ∷ ys) zero h = absurd (omega arith)
nth_past (y ∷ ys) (suc i) h = nth_past ys i (omega arith)

pub get_d_mem : (l : List ℕ) (i : ℕ) → i < length l → Memᴰ (get_or l i 0) l
get_d_mem [] i h = absurd (omega arith)
get_d_mem (y ∷ ys) zero h = Memᴰ.head refl
get_d_mem (y ∷ ys) (suc i) h = Memᴰ.tail (get_d_mem ys i (omega arith))

pub nth_append_left : (l r : List ℕ) (i : ℕ) → i < length l → nth (l ++ r) i ≡ nth l i
unfolding nth
nth_append_left [] r i h = absurd (omega arith)
nth_append_left (y ∷ ys) r zero h = refl
nth_append_left (y ∷ ys) r (suc i) h = nth_append_left ys r i (omega arith)

-- after the set at an index stands the set at the next index
first_nth : (l : List ℕ) → first l ≡ nth l 0
unfolding first nth
first_nth [] = refl
first_nth (y ∷ ys) = refl

pub after_nth : (l : List ℕ) (i x : ℕ) → Once l → nth l i ≡ Some (set_of x) → after x l ≡ nth l (suc i)
unfolding nth
after_nth [] i x o e = absurd (Memᴰ.not-nil (nth_mem [] i x e))
after_nth (y ∷ ys) zero x o e =
    let s : set_of y ≡ set_of x = cc in
    after_here x y ys (ap (λ (c : ColumnSet). c.bits) (sym s)) ∙ first_nth ys
after_nth (y ∷ ys) (suc i) x o e =
    after_there x y ys (λ q. o.0 (subst (λ (j : ℕ). Memᴰ j ys) q (nth_mem ys i x e)))
    ∙ after_nth ys i x o.1 e
