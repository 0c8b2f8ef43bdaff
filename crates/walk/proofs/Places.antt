-- Laws of where a set stands: what stands at its place, which set stands next, and how a place is found target by
-- target.
use Prim.Native.Nat.{ℕ, zero, suc, ◌+◌, ◌-◌, ◌^◌, ◌≤◌, ◌<◌}
use mathlib.Core.Path.{◌≡◌, refl, sym, ap, subst, ◌∙◌}
use mathlib.Core.Logic.{◌⊎◌, inl, inr}
use mathlib.Core.List.{List, [], ◌∷◌, ◌++◌}
use native.Mathlib.Nat.{sub-zero}
use native.Mathlib.Numerals.{add-one}
use native.Mathlib.Omega.{arith}
use lib.Pow.{pow_pos}
use lib.ListN.{length, get_or, drop}
use lib.Seq.{drop-append-le}
use lib.Count.{ones, ones_in}
use Rattle.std.specs.Prelude.{Some, None}
use Rattle.columns.specs.Bound.{column_bound}
use Rattle.columns.specs.Set.{set_of}
use Rattle.columns.specs.Order.{in_order, by_size_from, of_size, of_size_from, next_of}
use Rattle.columns.specs.declared.ColumnSet.{ColumnSet}
use Rattle.columns.proofs.Order.{drop_in_order, get_d_in_order_lt, next_at, next_at_last}
use Rattle.columns.proofs.Pascal.{length_in_order, from_yes}
use Rattle.model.specs.Listing.{Listing, width_of, rights_of, entries_of, cells_of, cells_from, cells}
use Rattle.model.specs.declared.Entry.{Entry}
use Rattle.model.proofs.Calls.{le_or_lt}
use Rattle.model.proofs.Listing.{places_target, places_from}
use Rattle.walk.specs.Places.{Chosen, cells_at, SetAt, SetBefore, Found}

-- lists from a place on
pub drop_next : {A : Type 0} (p : ℕ) (l : List A) (c : A) (r : List A) → drop p l ≡ c ∷ r → drop (suc p) l ≡ r
drop_next zero [] c r e = let z : ◌≡◌ {A = ℕ} 0 1 = cc in absurd (omega arith)
drop_next zero (x ∷ l) c r e = cc
drop_next (suc p) [] c r e = let z : ◌≡◌ {A = ℕ} 0 1 = cc in absurd (omega arith)
drop_next (suc p) (x ∷ l) c r e = drop_next p l c r e

pub drop_inside : {A : Type 0} (p : ℕ) (l : List A) (c : A) (r : List A) → drop p l ≡ c ∷ r → p < length l
drop_inside zero [] c r e = let z : ◌≡◌ {A = ℕ} 0 1 = cc in absurd (omega arith)
drop_inside zero (x ∷ l) c r e = omega arith
drop_inside (suc p) [] c r e = let z : ◌≡◌ {A = ℕ} 0 1 = cc in absurd (omega arith)
drop_inside (suc p) (x ∷ l) c r e = let h = drop_inside p l c r e in omega arith

pub drop_here : {A : Type 0} (p : ℕ) (l : List A) (c d : A) (r : List A) → drop p l ≡ c ∷ r → get_or l p d ≡ c
drop_here zero [] c d r e = let z : ◌≡◌ {A = ℕ} 0 1 = cc in absurd (omega arith)
drop_here zero (x ∷ l) c d r e = cc
drop_here (suc p) [] c d r e = let z : ◌≡◌ {A = ℕ} 0 1 = cc in absurd (omega arith)
drop_here (suc p) (x ∷ l) c d r e = drop_here p l c d r e

drop_past : {A : Type 0} (n : ℕ) (l r : List A) → length l ≤ n → drop n (l ++ r) ≡ drop (n - length l) r
drop_past n [] r h = ap (λ (k : ℕ). drop k r) (sym (sub-zero n))
drop_past zero (x ∷ l) r h = absurd (omega arith)
drop_past {A} (suc n) (x ∷ l) r h =
    let e : n - length l ≡ suc n - suc (length l) = omega arith in
    drop_past n l r (omega arith) ∙ ap (λ (k : ℕ). drop k r) e

drop_none : {A : Type 0} (l : List A) → drop (length l) l ≡ []
drop_none [] = refl
drop_none (x ∷ l) = drop_none l

-- the empty set stands first
pub first_empty : (n : ℕ) → get_or (in_order n) 0 0 ≡ 0
unfolding in_order by_size_from of_size ones ones_in
first_empty n = at (2 ^ n) refl
  where
    at : (m : ℕ) → 2 ^ n ≡ m → get_or (of_size_from 0 (2 ^ n) 0 ++ by_size_from n n 1) 0 0 ≡ 0
    at zero e = absurd (omega (arith, pow_pos n))
    at (suc m) e =
        ap (λ (k : ℕ). get_or (of_size_from 0 k 0 ++ by_size_from n n 1) 0 0) e
        ∙ ap (λ (l : List ℕ). get_or (l ++ by_size_from n n 1) 0 0) (from_yes 0 m 0 refl)

module _ (l : Listing) where
  -- the cells of a target from an index on
  cells_drop : (t i : ℕ) (xs : List ℕ) → drop i (cells_of l t xs) ≡ cells_of l t (drop i xs)
  unfolding cells_of
  cells_drop t zero xs = refl
  cells_drop t (suc i) [] = refl
  cells_drop t (suc i) (x ∷ xs) = cells_drop t i xs

  -- the set's own entries, and the cells after it
  pub cells_first : (t x i : ℕ) → Chosen l t x i
      → cells_at l t i ≡ entries_of l t x (rights_of l t) ∷ cells_at l t (suc i)
  unfolding cells_of
  cells_first t x i c =
      ap (λ (xs : List ℕ). cells_of l t xs ++ cells_from l (l.targets - suc t) (suc t))
      (drop_in_order (width_of l t) i c.inside)
      ∙ ap (λ (y : ℕ). entries_of l t y (rights_of l t) ∷ cells_at l t (suc i)) (sym c.left)

  -- after a target's last set come the later targets
  cells_last : (t i : ℕ) → i ≡ 2 ^ width_of l t → cells_at l t i ≡ cells_from l (l.targets - suc t) (suc t)
  unfolding cells_of
  cells_last t i e =
      ap (λ (xs : List ℕ). cells_of l t xs ++ cells_from l (l.targets - suc t) (suc t))
      (ap (λ (k : ℕ). drop k (in_order (width_of l t))) (e ∙ sym (length_in_order (width_of l t)))
      ∙ drop_none (in_order (width_of l t)))

  -- a target's sets, and then the later targets
  cells_target : (t : ℕ) → t < l.targets → cells_from l (l.targets - t) t ≡ cells_at l t 0
  unfolding cells_from
  cells_target t h =
      let e : l.targets - t ≡ suc (l.targets - suc t) = omega arith in
      ap (λ (m : ℕ). cells_from l m t) e

  -- a left side is a number of as many bits as the target has members
  pub chosen_lt : (t x i : ℕ) → Chosen l t x i → x < 2 ^ width_of l t
  chosen_lt t x i c =
      subst (λ (y : ℕ). y < 2 ^ width_of l t) (sym c.left) (get_d_in_order_lt (width_of l t) i c.inside)

  module _ (t x place : ℕ) (s : SetAt l t x place) where
    -- what stands at the place, and after it
    pub stands_cells : drop place (cells l) ≡ entries_of l t x (rights_of l t) ∷ drop (suc place) (cells l)
    stands_cells =
        let e = s.cells ∙ cells_first t x s.index s.set in
        e ∙ ap (λ (cs : List (List Entry)). entries_of l t x (rights_of l t) ∷ cs) (sym (drop_next place (cells l) _ _ e))

    pub stands_inside : place < length (cells l)
    stands_inside = drop_inside place (cells l) _ _ stands_cells

    pub stands_before : SetBefore l t x (suc place)
    stands_before =
        record {
          index = s.index;
          set = s.set;
          cells = drop_next place (cells l) _ _ (s.cells ∙ cells_first t x s.index s.set);
        }

  module _ (t x place : ℕ) (p : SetBefore l t x place) (few : width_of l t ≤ column_bound) where
    -- the next set stands at the place: the next one of the target, or the empty set of the next target
    pub next_within : (y : ℕ) → next_of (width_of l t) x ≡ Some (set_of y) → SetAt l t y place
    next_within y e = at (le_or_lt (2 ^ width_of l t) (suc p.index))
      where
        same : next_of (width_of l t) x ≡ next_of (width_of l t) (get_or (in_order (width_of l t)) p.index 0)
        same = ap (next_of (width_of l t)) p.set.left

        at : (2 ^ width_of l t ≤ suc p.index) ⊎ (suc p.index < 2 ^ width_of l t) → SetAt l t y place
        at (inl h) =
            let inside = p.set.inside in
            let q : suc p.index ≡ 2 ^ width_of l t = omega arith in
            let n = next_at_last (width_of l t) p.index few q in
            let z : ◌≡◌ {A = ℕ} 0 1 = cc in
            absurd (omega arith)
        at (inr h) =
            let n = next_at (width_of l t) p.index few h in
            let z : set_of y ≡ set_of (get_or (in_order (width_of l t)) (suc p.index) 0) = cc in
            let i : y ≡ get_or (in_order (width_of l t)) (suc p.index) 0 = ap (λ (w : ColumnSet). w.bits) z in
            record {
              index = suc p.index;
              set = record { target = p.set.target; inside = h; left = i };
              cells = p.cells;
            }

    last_of : next_of (width_of l t) x ≡ None → suc p.index ≡ 2 ^ width_of l t
    last_of e = at (le_or_lt (2 ^ width_of l t) (suc p.index))
      where
        same : next_of (width_of l t) x ≡ next_of (width_of l t) (get_or (in_order (width_of l t)) p.index 0)
        same = ap (next_of (width_of l t)) p.set.left

        at : (2 ^ width_of l t ≤ suc p.index) ⊎ (suc p.index < 2 ^ width_of l t) → suc p.index ≡ 2 ^ width_of l t
        at (inl h) = let inside = p.set.inside in omega arith
        at (inr h) =
            let n = next_at (width_of l t) p.index few h in
            let z : ◌≡◌ {A = ℕ} 0 1 = cc in
            absurd (omega arith)

    pub next_target : next_of (width_of l t) x ≡ None → suc t < l.targets → SetAt l (suc t) 0 place
    next_target e h =
        record {
          index = 0;
          set =
              record { target = h; inside = pow_pos (width_of l (suc t)); left = sym (first_empty (width_of l (suc t))) };
          cells = p.cells ∙ cells_last t (suc p.index) (last_of e) ∙ cells_target (suc t) h;
        }

    pub next_none : next_of (width_of l t) x ≡ None → l.targets ≤ suc t → drop place (cells l) ≡ []
    unfolding cells_from
    next_none e h =
        let z : l.targets - suc t ≡ 0 = omega arith in
        p.cells ∙ cells_last t (suc p.index) (last_of e) ∙ ap (λ (m : ℕ). cells_from l m (suc t)) z

-- a place is found by passing whole targets: what is left of it after the targets below t
pub record Passing (l : Listing) (place t left : ℕ) : Type 0 where
  pub target : t < l.targets
  pub inside : left < length (cells_from l (l.targets - t) t)
  pub cells : drop place (cells l) ≡ drop left (cells_from l (l.targets - t) t)

module _ (l : Listing) (place : ℕ) where
  some_left : (t left : ℕ) → left < length (cells_from l (l.targets - t) t) → t < l.targets
  unfolding cells_from
  some_left t left h = at (le_or_lt l.targets t)
    where
      at : (l.targets ≤ t) ⊎ (t < l.targets) → t < l.targets
      at (inl k) =
          let z : l.targets - t ≡ 0 = omega arith in
          let y : length (cells_from l (l.targets - t) t) ≡ 0 = ap (λ (m : ℕ). length (cells_from l m t)) z in
          absurd (omega arith)
      at (inr k) = k

  pub passing_none : place < length (cells l) → Passing l place 0 place
  unfolding cells
  passing_none h =
      let none = sym (sub-zero l.targets) in
      let i : place < length (cells_from l (l.targets - 0) 0) =
      subst (λ (m : ℕ). place < length (cells_from l m 0)) none h in
      record { target = some_left 0 place i; inside = i; cells = ap (λ (m : ℕ). drop place (cells_from l m 0)) none }

  sets_target : (t : ℕ) → t < l.targets
      → length (cells_from l (l.targets - t) t) ≡ 2 ^ width_of l t + length (cells_from l (l.targets - suc t) (suc t))
  sets_target t h =
      let e : l.targets - t ≡ suc (l.targets - suc t) = omega arith in
      ap (λ (m : ℕ). length (cells_from l m t)) e ∙ places_from l (l.targets - suc t) t

  module _ (t left : ℕ) (p : Passing l place t left) where
    passing_more : 2 ^ width_of l t ≤ left → Passing l place (suc t) (left - 2 ^ width_of l t)
    passing_more h =
        let i : left - 2 ^ width_of l t < length (cells_from l (l.targets - suc t) (suc t)) =
        omega (arith, p.inside, sets_target t p.target) in
        let n = places_target l t in
        record {
          target = some_left (suc t) (left - 2 ^ width_of l t) i;
          inside = i;
          cells =
              p.cells ∙ ap (drop left) (cells_target l t p.target)
              ∙ drop_past left (cells_of l t (in_order (width_of l t))) (cells_from l (l.targets - suc t) (suc t))
              (omega arith) ∙ ap (λ (k : ℕ). drop (left - k) (cells_from l (l.targets - suc t) (suc t))) n;
        }

    -- the same in the words of the code
    pub passing_on : (here : ℕ) → here ≡ 2 ^ width_of l t → here ≤ left → Passing l place (t + 1) (left - here)
    passing_on here e h =
        subst (λ (i : ℕ). Passing l place i (left - here)) (sym (add-one t))
        (subst (λ (k : ℕ). Passing l place (suc t) (left - k)) (sym e) (passing_more (omega arith)))

    pub passing_found : left < 2 ^ width_of l t → Found l place t left
    passing_found h =
        let n = places_target l t in
        record {
          target = p.target;
          inside = h;
          cells =
              p.cells ∙ ap (drop left) (cells_target l t p.target)
              ∙ drop-append-le left (cells_of l t (in_order (width_of l t)))
              (cells_from l (l.targets - suc t) (suc t)) (omega arith)
              ∙ ap (λ (cs : List (List Entry)). cs ++ cells_from l (l.targets - suc t) (suc t))
              (cells_drop l t left (in_order (width_of l t)));
        }

pub found_stands : (l : Listing) (place t i x : ℕ) → Found l place t i → x ≡ get_or (in_order (width_of l t)) i 0
    → SetAt l t x place
found_stands l place t i x f e =
    record { index = i; set = record { target = f.target; inside = f.inside; left = e }; cells = f.cells }
