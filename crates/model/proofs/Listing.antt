-- The full listing: the entries that stand in it are those in its cells, in order, so once, and as many as there are;
-- and how many places it has.
use Prim.Native.Nat.{ℕ, zero, suc, ◌+◌, ◌^◌, ◌≤◌, ◌<◌}
use mathlib.Core.Path.{◌≡◌, refl, sym, ap, ap₂, subst, ◌∙◌}
use mathlib.Core.Logic.{◌⊎◌, inl, inr, ⊎_elim, ◌↔◌}
use mathlib.Core.List.{List, [], ◌∷◌, ◌++◌, Memᴰ}
use mathlib.Core.Bool.{Bool, true, false}
use native.Mathlib.Nat.{zero-add, add-zero, suc-add, add-suc}
use native.Mathlib.Decide.{ℕ_discrete}
use native.Mathlib.Omega.{arith}
use lib.Dec.{T}
use lib.ListN.{length, length-append}
use Rattle.columns.specs.Test.{pick}
use Rattle.columns.specs.Order.{Precedes, in_order}
use Rattle.columns.specs.Order as lists
use Rattle.columns.proofs.Order.{mem_in_order, in_order_mem, ordered_in_order}
use Rattle.columns.proofs.Pascal.{length_in_order}
use Rattle.model.specs.Catalogue.{tables, visible, sets_from, sets}
use Rattle.model.specs.Listed.{listed}
use Rattle.model.specs.Entry.{entry, Ordered, Once}
use Rattle.model.specs.Listing.{Listing, width_of, rights_of, entries_of, cells_of, cells_from, cells}
use Rattle.model.specs.Listing.{Stands, Bounded, count_rights, count_lefts, count_targets, count_all, ordinary}
use Rattle.model.specs.Calls.{flat}
use Rattle.model.specs.declared.Entry.{Entry}
use Rattle.model.proofs.Truth.{true_is}
use Rattle.model.proofs.Listed.{listed_is}
use Rattle.model.proofs.Rights.{Ascending, rights_ascending}
use Rattle.model.proofs.Earlier.{ordered_once, ordered_append}
use Rattle.model.proofs.Calls.{flat_append}
use Rattle.model.proofs.Sums.{sum_over, sum_below, sum_in_order}

module _ (l : Listing) where
  -- what stands in the entries of one left side
  mem_entries : (t x : ℕ) (rs : List ℕ) (e : Entry) → Memᴰ e (entries_of l t x rs)
      → (e.target ≡ t) × (e.left ≡ x) × Memᴰ e.right rs × T (listed (l.view t) x e.right)
  unfolding entries_of
  mem_entries t x [] e m = absurd (mathlib.Core.List.Memᴰ.not-nil m)
  mem_entries t x (a ∷ rest) e m = at (λ n. mem_entries t x rest e n) (listed (l.view t) x a) refl m
    where
      Is : List ℕ → Type 0
      Is rs = (e.target ≡ t) × (e.left ≡ x) × Memᴰ e.right rs × T (listed (l.view t) x e.right)

      later : Is rest → Is (a ∷ rest)
      later w = (w.0, w.1, mathlib.Core.List.Memᴰ.tail w.2, w.3)

      here : listed (l.view t) x a ≡ true → e ≡ entry t x a → Is (a ∷ rest)
      here p q = (
        ap (λ (f : Entry). f.target) q,
        ap (λ (f : Entry). f.left) q,
        mathlib.Core.List.Memᴰ.head (ap (λ (f : Entry). f.right) q),
        subst (λ (c : ℕ). T (listed (l.view t) x c)) (sym (ap (λ (f : Entry). f.right) q)) (true_is p),
      )

      at : (Memᴰ e (entries_of l t x rest) → Is rest) → (b : Bool) → listed (l.view t) x a ≡ b
          → Memᴰ e (pick b (entry t x a ∷ entries_of l t x rest) (entries_of l t x rest)) → Is (a ∷ rest)
      at ih true p n =
          ⊎_elim (here p) (λ (k : Memᴰ e (entries_of l t x rest)). later (ih k)) (mathlib.Core.List.Memᴰ.cases_cons n)
      at ih false p n = later (ih n)

  entries_mem : (t x : ℕ) (rs : List ℕ) (a : ℕ) → Memᴰ a rs → T (listed (l.view t) x a)
      → Memᴰ (entry t x a) (entries_of l t x rs)
  unfolding entries_of
  entries_mem t x [] a m i = absurd (mathlib.Core.List.Memᴰ.not-nil m)
  entries_mem t x (c ∷ rest) a m i =
      at (λ n. entries_mem t x rest a n i) (listed (l.view t) x c) refl (mathlib.Core.List.Memᴰ.cases_cons m)
    where
      at : (Memᴰ a rest → Memᴰ (entry t x a) (entries_of l t x rest)) → (b : Bool) → listed (l.view t) x c ≡ b
          → (a ≡ c) ⊎ Memᴰ a rest
          → Memᴰ (entry t x a) (pick b (entry t x c ∷ entries_of l t x rest) (entries_of l t x rest))
      at ih true p (inl q) = mathlib.Core.List.Memᴰ.head (ap (entry t x) q)
      at ih true p (inr n) = mathlib.Core.List.Memᴰ.tail (ih n)
      at ih false p (inl q) = absurd (subst T p (subst (λ (d : ℕ). T (listed (l.view t) x d)) q i))
      at ih false p (inr n) = ih n

  -- in the cells of some left sides of a target
  mem_cells_of : (t : ℕ) (xs : List ℕ) (e : Entry) → Memᴰ e (flat (cells_of l t xs))
      → (e.target ≡ t) × Memᴰ e.left xs × Memᴰ e.right (rights_of l t)
      × T (listed (l.view t) e.left e.right)
  unfolding cells_of
  mem_cells_of t [] e m = absurd (mathlib.Core.List.Memᴰ.not-nil m)
  mem_cells_of t (x ∷ xs) e m =
      ⊎_elim (λ (n : Memᴰ e (entries_of l t x (rights_of l t))). here (mem_entries t x (rights_of l t) e n))
      (λ (n : Memᴰ e (flat (cells_of l t xs))). let w = mem_cells_of t xs e n in
      (w.0, mathlib.Core.List.Memᴰ.tail w.1, w.2, w.3))
      (mathlib.Core.List.Memᴰ.append_cases (entries_of l t x (rights_of l t)) m)
    where
      here : (e.target ≡ t) × (e.left ≡ x) × Memᴰ e.right (rights_of l t) × T (listed (l.view t) x e.right)
          → (e.target ≡ t) × Memᴰ e.left (x ∷ xs) × Memᴰ e.right (rights_of l t)
          × T (listed (l.view t) e.left e.right)
      here w = (
        w.0,
        mathlib.Core.List.Memᴰ.head w.1,
        w.2,
        subst (λ (y : ℕ). T (listed (l.view t) y e.right)) (sym w.1) w.3,
      )

  cells_of_mem : (t : ℕ) (xs : List ℕ) (x a : ℕ) → Memᴰ x xs → Memᴰ a (rights_of l t)
      → T (listed (l.view t) x a) → Memᴰ (entry t x a) (flat (cells_of l t xs))
  unfolding cells_of
  cells_of_mem t [] x a m r i = absurd (mathlib.Core.List.Memᴰ.not-nil m)
  cells_of_mem t (y ∷ ys) x a m r i =
      ⊎_elim
      (λ (q : x ≡ y).
      mathlib.Core.List.Memᴰ.append_left (flat (cells_of l t ys))
      (subst (λ (z : ℕ). Memᴰ (entry t x a) (entries_of l t z (rights_of l t))) q
      (entries_mem t x (rights_of l t) a r i)))
      (λ (n : Memᴰ x ys). mathlib.Core.List.Memᴰ.append_right (entries_of l t y (rights_of l t)) (cells_of_mem t ys x a n r i))
      (mathlib.Core.List.Memᴰ.cases_cons m)

  -- in the cells of some targets
  mem_cells_from : (n t : ℕ) (e : Entry) → Memᴰ e (flat (cells_from l n t))
      → (t ≤ e.target) × (e.target < t + n) × Memᴰ e.left (in_order (width_of l e.target))
      × Memᴰ e.right (rights_of l e.target) × T (listed (l.view e.target) e.left e.right)
  unfolding cells_from
  mem_cells_from zero t e m = absurd (mathlib.Core.List.Memᴰ.not-nil m)
  mem_cells_from (suc n) t e m =
      ⊎_elim (λ (k : Memᴰ e (flat (cells_of l t (in_order (width_of l t))))). here
      (mem_cells_of t (in_order (width_of l t)) e k))
      (λ (k : Memᴰ e (flat (cells_from l n (suc t)))).
      let w = mem_cells_from n (suc t) e k in
      (omega arith, omega arith, w.2, w.3, w.4))
      (mathlib.Core.List.Memᴰ.append_cases (flat (cells_of l t (in_order (width_of l t))))
      (subst (λ (es : List Entry). Memᴰ e es)
      (flat_append (cells_of l t (in_order (width_of l t))) (cells_from l n (suc t))) m))
    where
      At : ℕ → Type 0
      At i = Memᴰ e.left (in_order (width_of l i)) × Memᴰ e.right (rights_of l i)
          × T (listed (l.view i) e.left e.right)

      here : (e.target ≡ t) × Memᴰ e.left (in_order (width_of l t)) × Memᴰ e.right (rights_of l t)
          × T (listed (l.view t) e.left e.right)
          → (t ≤ e.target) × (e.target < t + suc n) × Memᴰ e.left (in_order (width_of l e.target))
          × Memᴰ e.right (rights_of l e.target) × T (listed (l.view e.target) e.left e.right)
      here w =
          let q = w.0 in
          let h = subst At (sym q) (w.1, w.2, w.3) in
          (omega arith, omega arith, h.0, h.1, h.2)

  cells_from_mem : (n t i x a : ℕ) → t ≤ i → i < t + n → Memᴰ x (in_order (width_of l i)) → Memᴰ a (rights_of l i)
      → T (listed (l.view i) x a) → Memᴰ (entry i x a) (flat (cells_from l n t))
  unfolding cells_from
  cells_from_mem zero t i x a p q mx ma h = absurd (omega arith)
  cells_from_mem (suc n) t i x a p q mx ma h =
      subst (λ (es : List Entry). Memᴰ (entry i x a) es)
      (sym (flat_append (cells_of l t (in_order (width_of l t))) (cells_from l n (suc t))))
      (at (λ r. cells_from_mem n (suc t) i x a r (omega arith) mx ma h) (ℕ_discrete i t))
    where
      at : (suc t ≤ i → Memᴰ (entry i x a) (flat (cells_from l n (suc t)))) → Dec (i ≡ t)
          → Memᴰ (entry i x a) (flat (cells_of l t (in_order (width_of l t))) ++ flat (cells_from l n (suc t)))
      at ih (yes e) =
          mathlib.Core.List.Memᴰ.append_left (flat (cells_from l n (suc t)))
          (subst (λ (j : ℕ). Memᴰ (entry i x a) (flat (cells_of l j (in_order (width_of l j))))) e
          (cells_of_mem i (in_order (width_of l i)) x a mx ma h))
      at ih (no ne) = mathlib.Core.List.Memᴰ.append_right (flat (cells_of l t (in_order (width_of l t)))) (ih (omega arith))

  -- the entries that stand in the listing, and no others, are in its cells
  pub stands_is : (e : Entry) → Memᴰ e (flat (cells l)) ↔ Stands l e
  unfolding cells
  stands_is e = (
    λ m.
        let w = mem_cells_from l.targets 0 e m in
        record {
          target = omega arith;
          left = mem_in_order (width_of l e.target) e.left w.2;
          right = w.3;
          listed = (listed_is (l.view e.target) e.left e.right).0 w.4;
        },
    λ s.
        let h = s.target in
        cells_from_mem l.targets 0 e.target e.left e.right (omega arith) (omega arith)
        (in_order_mem (width_of l e.target) e.left s.left) s.right
        ((listed_is (l.view e.target) e.left e.right).1 s.listed),
  )

  -- the order of the full listing
  ordered_entries : (t x : ℕ) (rs : List ℕ) → Ascending rs → Ordered (entries_of l t x rs)
  unfolding entries_of
  ordered_entries t x [] h = tt
  ordered_entries t x (a ∷ rest) h = at (ordered_entries t x rest h.1) (listed (l.view t) x a)
    where
      at : Ordered (entries_of l t x rest) → (b : Bool)
          → Ordered (pick b (entry t x a ∷ entries_of l t x rest) (entries_of l t x rest))
      at ih true = (
        λ f m.
            let w = mem_entries t x rest f m in
            inr (sym w.0, inr (sym w.1, h.0 f.right w.2)),
        ih,
      )
      at ih false = ih

  ordered_cells_of : (t : ℕ) (xs : List ℕ) → Ascending (rights_of l t) → lists.Ordered xs
      → Ordered (flat (cells_of l t xs))
  unfolding cells_of
  ordered_cells_of t [] r h = tt
  ordered_cells_of t (x ∷ xs) r h =
      ordered_append (entries_of l t x (rights_of l t)) (flat (cells_of l t xs))
      (ordered_entries t x (rights_of l t) r) (ordered_cells_of t xs r h.1)
      (λ e f m n.
      let v = mem_entries t x (rights_of l t) e m in
      let w = mem_cells_of t xs f n in
      inr (v.0 ∙ sym w.0, inl (subst (λ (y : ℕ). Precedes y f.left) (sym v.1) (h.0 f.left w.1))))

  ordered_cells_from : (n t : ℕ) → ((i : ℕ) → t ≤ i → i < t + n → Ascending (rights_of l i))
      → Ordered (flat (cells_from l n t))
  unfolding cells_from
  ordered_cells_from zero t r = tt
  ordered_cells_from (suc n) t r =
      subst Ordered (sym (flat_append (cells_of l t (in_order (width_of l t))) (cells_from l n (suc t))))
      (ordered_append (flat (cells_of l t (in_order (width_of l t)))) (flat (cells_from l n (suc t)))
      (ordered_cells_of t (in_order (width_of l t)) (r t (omega arith) (omega arith)) (ordered_in_order (width_of l t)))
      (ordered_cells_from n (suc t) (λ i p q. r i (omega arith) (omega arith)))
      (λ e f m k.
      let v = mem_cells_of t (in_order (width_of l t)) e m in
      let w = mem_cells_from n (suc t) f k in
      inl (omega arith)))

  pub full_ordered : Bounded l → Ordered (flat (cells l))
  unfolding cells
  full_ordered r =
      ordered_cells_from l.targets 0 (λ i p q. rights_ascending l i (r.members i (omega arith)))

  pub full_once : Bounded l → Once (flat (cells l))
  full_once r = ordered_once (flat (cells l)) (full_ordered r)

  -- how many entries stand there
  count_entries : (t x : ℕ) (rs : List ℕ) → length (entries_of l t x rs) ≡ count_rights l t x rs
  unfolding entries_of count_rights
  count_entries t x [] = refl
  count_entries t x (a ∷ rest) = at (count_entries t x rest) (listed (l.view t) x a)
    where
      at : length (entries_of l t x rest) ≡ count_rights l t x rest → (b : Bool)
          → length (pick b (entry t x a ∷ entries_of l t x rest) (entries_of l t x rest))
          ≡ pick b 1 0 + count_rights l t x rest
      at ih true = omega arith
      at ih false = omega arith

  count_cells_of : (t : ℕ) (xs : List ℕ)
      → length (flat (cells_of l t xs)) ≡ sum_over (λ x. count_rights l t x (rights_of l t)) xs
  unfolding cells_of
  count_cells_of t [] = refl
  count_cells_of t (x ∷ xs) =
      length-append (entries_of l t x (rights_of l t)) (flat (cells_of l t xs))
      ∙ ap₂ ◌+◌ (count_entries t x (rights_of l t)) (count_cells_of t xs)

  count_lefts_lem : (t m : ℕ) → sum_below (λ x. count_rights l t x (rights_of l t)) m ≡ count_lefts l t m
  unfolding count_lefts
  count_lefts_lem t zero = refl
  count_lefts_lem t (suc m) = ap (λ n. count_rights l t m (rights_of l t) + n) (count_lefts_lem t m)

  count_target : (t : ℕ) → length (flat (cells_of l t (in_order (width_of l t)))) ≡ count_lefts l t (2 ^ width_of l t)
  count_target t =
      count_cells_of t (in_order (width_of l t))
      ∙ sum_in_order (λ x. count_rights l t x (rights_of l t)) (width_of l t)
      ∙ count_lefts_lem t (2 ^ width_of l t)

  count_cells_from : (n t : ℕ) → length (flat (cells_from l n t)) + count_targets l t ≡ count_targets l (t + n)
  unfolding cells_from count_targets
  count_cells_from zero t = zero-add (count_targets l t) ∙ ap (count_targets l) (sym (add-zero t))
  count_cells_from (suc n) t =
      let e : count_targets l (suc t + n) ≡ count_targets l (t + suc n) =
      ap (count_targets l) (suc-add t n ∙ sym (add-suc t n)) in
      let f : length (flat (cells_from l (suc n) t))
      ≡ length (flat (cells_of l t (in_order (width_of l t)))) + length (flat (cells_from l n (suc t))) =
      ap length (flat_append (cells_of l t (in_order (width_of l t))) (cells_from l n (suc t)))
      ∙ length-append (flat (cells_of l t (in_order (width_of l t)))) (flat (cells_from l n (suc t))) in
      omega (arith, count_cells_from n (suc t), count_target t)

  pub full_count : length (flat (cells l)) ≡ count_all l
  unfolding cells count_all count_targets
  full_count =
      let e : count_targets l (0 + l.targets) ≡ count_targets l l.targets =
      ap (count_targets l) (zero-add l.targets) in
      omega (arith, count_cells_from l.targets 0)

  -- how many places there are
  pub places_of : (t : ℕ) (xs : List ℕ) → length (cells_of l t xs) ≡ length xs
  unfolding cells_of
  places_of t [] = refl
  places_of t (x ∷ xs) = ap suc (places_of t xs)

  pub places_target : (t : ℕ) → length (cells_of l t (in_order (width_of l t))) ≡ 2 ^ width_of l t
  places_target t = places_of t (in_order (width_of l t)) ∙ length_in_order (width_of l t)

  pub places_from : (n t : ℕ) → length (cells_from l (suc n) t) ≡ 2 ^ width_of l t + length (cells_from l n (suc t))
  unfolding cells_from
  places_from n t =
      length-append (cells_of l t (in_order (width_of l t))) (cells_from l n (suc t))
      ∙ ap (λ (k : ℕ). k + length (cells_from l n (suc t))) (places_target t)

-- the last place of the ordinary listing is the number of sets over all targets
cells_length_from : (cat : List ℕ) (n target : ℕ) → length (cells_from (ordinary cat) n target) ≡ sets_from cat n target
unfolding cells_from sets_from
cells_length_from cat zero target = refl
cells_length_from cat (suc n) target =
    places_from (ordinary cat) n target
    ∙ ap (λ (k : ℕ). 2 ^ visible cat target + k) (cells_length_from cat n (suc target))

pub cells_length : (cat : List ℕ) → length (cells (ordinary cat)) ≡ sets cat
unfolding cells sets
cells_length cat = cells_length_from cat (tables cat) 0
