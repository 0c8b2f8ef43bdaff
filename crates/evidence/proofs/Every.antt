-- What the tests of every element of a list, and of some element, say.
use mathlib.Core.Path.{◌≡◌, refl, sym, subst}
use mathlib.Core.Logic.{◌⊎◌, inl, inr, ⊎_elim, ◌↔◌}
use mathlib.Core.Bool.{Bool}
use mathlib.Core.List.Memᴰ
use mathlib.Core.List.{List, [], ◌∷◌, Memᴰ}
use lib.Dec.{T}
use Rattle.model.specs.Evidence.{all_in, some_in}
use Rattle.model.proofs.Truth.{decided, and_is, or_is}

module _ {A : Type 0} (f : A → Bool) where
  -- the test of every element passes exactly if f does for each
  all_each : (xs : List A) → T (all_in f xs) → (x : A) → Memᴰ x xs → T (f x)
  unfolding all_in
  all_each [] t x m = absurd (Memᴰ.not-nil m)
  all_each (y ∷ ys) t x m =
      let both = (and_is (f y) (all_in f ys)).0 t in
      ⊎_elim (λ (e : x ≡ y). subst (λ (z : A). T (f z)) (sym e) both.0) (all_each ys both.1 x)
      (Memᴰ.cases_cons m)

  each_all : (xs : List A) → ((x : A) → Memᴰ x xs → T (f x)) → T (all_in f xs)
  unfolding all_in
  each_all [] h = tt
  each_all (y ∷ ys) h =
      (and_is (f y) (all_in f ys)).1
      (h y (Memᴰ.head refl), each_all ys (λ x m. h x (Memᴰ.tail m)))

  pub all_in_is : (xs : List A) → T (all_in f xs) ↔ ((x : A) → Memᴰ x xs → T (f x))
  all_in_is xs = (all_each xs, each_all xs)

  -- if it does not pass, f fails for an element
  pub one_fails_in : (xs : List A) → (T (all_in f xs) → ⊥) → (x : A) × Memᴰ x xs × (T (f x) → ⊥)
  unfolding all_in
  one_fails_in [] n = absurd (n tt)
  one_fails_in (y ∷ ys) n = at (one_fails_in ys) (decided (f y))
    where
      at : ((T (all_in f ys) → ⊥) → (x : A) × Memᴰ x ys × (T (f x) → ⊥)) → T (f y) ⊎ (T (f y) → ⊥)
          → (x : A) × Memᴰ x (y ∷ ys) × (T (f x) → ⊥)
      at later (inr fails) = (y, Memᴰ.head refl, fails)
      at later (inl passes) =
          let w = later (λ t. n ((and_is (f y) (all_in f ys)).1 (passes, t))) in
          (w.0, Memᴰ.tail w.1, w.2)

  -- the test of some element passes exactly if there is one for which f does
  some_one : (xs : List A) → T (some_in f xs) → (x : A) × Memᴰ x xs × T (f x)
  unfolding some_in
  some_one [] t = absurd t
  some_one (y ∷ ys) t = at (some_one ys) ((or_is (f y) (some_in f ys)).0 t)
    where
      at : (T (some_in f ys) → (x : A) × Memᴰ x ys × T (f x)) → T (f y) ⊎ T (some_in f ys)
          → (x : A) × Memᴰ x (y ∷ ys) × T (f x)
      at later (inl passes) = (y, Memᴰ.head refl, passes)
      at later (inr rest) = let w = later rest in (w.0, Memᴰ.tail w.1, w.2)

  one_some : (xs : List A) (x : A) → Memᴰ x xs → T (f x) → T (some_in f xs)
  unfolding some_in
  one_some [] x m t = absurd (Memᴰ.not-nil m)
  one_some (y ∷ ys) x m t =
      (or_is (f y) (some_in f ys)).1
      (⊎_elim (λ (e : x ≡ y). inl (subst (λ (z : A). T (f z)) e t)) (λ r. inr (one_some ys x r t))
      (Memᴰ.cases_cons m))

  pub some_in_is : (xs : List A) → T (some_in f xs) ↔ ((x : A) × Memᴰ x xs × T (f x))
  some_in_is xs = (some_one xs, λ w. one_some xs w.0 w.1 w.2)
