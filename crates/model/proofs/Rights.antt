-- The right sides that a mask stands for: which they are, that they ascend, and how many. And those of a table: its
-- own columns and the row.
use Prim.Native.Nat.{ℕ, zero, suc, ◌+◌, ◌-◌, ◌^◌, ◌≤◌, ◌<◌, zero-le}
use mathlib.Core.Path.{◌≡◌, refl, sym, ap, subst, ◌∙◌}
use mathlib.Core.Logic.{◌⊎◌, inl, inr, ⊎_elim, ◌↔◌}
use mathlib.Core.List.Memᴰ
use mathlib.Core.List.{List, [], ◌∷◌, Memᴰ}
use mathlib.Core.Bool.{Bool, true, false}
use native.Mathlib.Decide.{ℕ_discrete, dec_lt}
use native.Mathlib.Omega.{arith}
use lib.ListN.{length}
use lib.Pow.{pow_pos, pow_mono}
use Rattle.columns.specs.Bound.{column_bound}
use Rattle.columns.specs.Set.{bit}
use Rattle.columns.specs.Test.{pick}
use Rattle.columns.proofs.Test.{if_eq_yes, if_eq_no}
use Rattle.columns.proofs.Bits.{bit_past, bit_full, bit_complement}
use Rattle.model.specs.Bounds.{row}
use Rattle.model.specs.Catalogue.{visible, inherited}
use Rattle.model.specs.Check.{Accepted}
use Rattle.model.specs.View.{is_in}
use Rattle.model.specs.Rights.{right_at, rights_from, rights_in}
use Rattle.model.specs.Target.{own_rights}
use Rattle.model.specs.Listing.{Listing, width_of, rights_of, Bounded, RowRight, ordinary}
use Rattle.model.proofs.Truth.{true_is, false_is, eqb_is}
use Rattle.model.proofs.Check.{accepted_tables, accepted_visible}
use Rattle.model.proofs.Climb.{inherited_visible}

-- numbers in ascending order
abbrev pub Ascending : List ℕ → Type 0
Ascending [] = Unit {0}
Ascending (a ∷ rest) = ((c : ℕ) → Memᴰ c rest → a < c) × Ascending rest

-- the row, and the columns
pub right_at_row : (n : ℕ) → right_at n n ≡ row
unfolding right_at
right_at_row n = if_eq_yes n refl

pub right_at_column : (n k : ℕ) → k < n → right_at n k ≡ k
unfolding right_at
right_at_column n k h = if_eq_no row (λ (e : k ≡ n). omega arith)

-- the number of the row is above those of the members, so rights grow with their bits
right_at_grows : (n j k : ℕ) → n ≤ row → j < k → k ≤ n → right_at n j < right_at n k
right_at_grows n j k few l u = at (ℕ_discrete k n)
  where
    low : right_at n j ≡ j
    low = right_at_column n j (omega arith)

    at : Dec (k ≡ n) → right_at n j < right_at n k
    at (yes e) =
        let r : right_at n k ≡ row = ap (right_at n) e ∙ right_at_row n in
        omega (arith, low)
    at (no e) =
        let r : right_at n k ≡ k = right_at_column n k (omega arith) in
        omega (arith, low)

-- the right sides of a mask over n members and the row
module _ (n mask : ℕ) where
  -- bit k of it is 1, and the right side a is the one that it stands for
  abbrev pub StandsFor : ℕ → ℕ → Type 0
  StandsFor k a = (bit mask k ≡ 1) × (a ≡ right_at n k)

  mem_from : (j k a : ℕ) → Memᴰ a (rights_from n mask j k) → (i : ℕ) × (k ≤ i) × (i < k + j) × StandsFor i a
  unfolding rights_from
  mem_from zero k a m = absurd (Memᴰ.not-nil m)
  mem_from (suc j) k a m = at (λ r. later (mem_from j (suc k) a r)) (is_in k mask) refl m
    where
      later : (i : ℕ) × (suc k ≤ i) × (i < suc k + j) × StandsFor i a → (i : ℕ) × (k ≤ i) × (i < k + suc j)
          × StandsFor i a
      later w =
          let l = w.1 in
          let u = w.2 in
          (w.0, omega arith, omega arith, w.3)

      at : (Memᴰ a (rights_from n mask j (suc k)) → (i : ℕ) × (k ≤ i) × (i < k + suc j) × StandsFor i a)
          → (b : Bool) → is_in k mask ≡ b
          → Memᴰ a (pick b (right_at n k ∷ rights_from n mask j (suc k)) (rights_from n mask j (suc k)))
          → (i : ℕ) × (k ≤ i) × (i < k + suc j) × StandsFor i a
      at ih true p m =
          ⊎_elim (λ (e : a ≡ right_at n k). (k, omega arith, omega arith, ((eqb_is (bit mask k) 1).0 (true_is p), e)))
          ih (Memᴰ.cases_cons m)
      at ih false p m = ih m

  from_mem : (j k i : ℕ) → k ≤ i → i < k + j → bit mask i ≡ 1 → Memᴰ (right_at n i) (rights_from n mask j k)
  unfolding rights_from
  from_mem zero k i l u e = absurd (omega arith)
  from_mem (suc j) k i l u e =
      at (λ h. from_mem j (suc k) i h (omega arith) e) (ℕ_discrete i k) (is_in k mask) refl
    where
      at : (suc k ≤ i → Memᴰ (right_at n i) (rights_from n mask j (suc k))) → Dec (i ≡ k) → (b : Bool)
          → is_in k mask ≡ b
          → Memᴰ (right_at n i) (pick b (right_at n k ∷ rights_from n mask j (suc k)) (rights_from n mask j (suc k)))
      at ih (yes q) true p = Memᴰ.head (ap (right_at n) q)
      at ih (yes q) false p =
          absurd (false_is p ((eqb_is (bit mask k) 1).1 (subst (λ (i : ℕ). bit mask i ≡ 1) q e)))
      at ih (no q) true p = Memᴰ.tail (ih (omega arith))
      at ih (no q) false p = ih (omega arith)

  pub mem_rights : (a : ℕ) → Memᴰ a (rights_in n mask) ↔ ((k : ℕ) × (k ≤ n) × StandsFor k a)
  unfolding rights_in
  mem_rights a = (
    λ m.
        let w = mem_from (suc n) 0 a m in
        let u = w.2 in
        (w.0, omega arith, w.3),
    λ w.
        let u = w.1 in
        subst (λ (c : ℕ). Memᴰ c (rights_from n mask (suc n) 0)) (sym w.2.1)
        (from_mem (suc n) 0 w.0 zero-le (omega arith) w.2.0),
  )

  ascending_from : n ≤ row → (j k : ℕ) → k + j ≤ suc n → Ascending (rights_from n mask j k)
  unfolding rights_from
  ascending_from few zero k h = tt
  ascending_from few (suc j) k h = at (ascending_from few j (suc k) (omega arith)) (is_in k mask)
    where
      at : Ascending (rights_from n mask j (suc k)) → (b : Bool)
          → Ascending (pick b (right_at n k ∷ rights_from n mask j (suc k)) (rights_from n mask j (suc k)))
      at ih true = (
        λ c m.
            let w = mem_from j (suc k) c m in
            let l = w.1 in
            let u = w.2 in
            subst (λ (d : ℕ). right_at n k < d) (sym w.3.1) (right_at_grows n k w.0 few l (omega arith)),
        ih,
      )
      at ih false = ih

  length_from : (j k : ℕ) → length (rights_from n mask j k) ≤ j
  unfolding rights_from
  length_from zero k = zero-le
  length_from (suc j) k = at (length_from j (suc k)) (is_in k mask)
    where
      at : length (rights_from n mask j (suc k)) ≤ j → (b : Bool)
          → length (pick b (right_at n k ∷ rights_from n mask j (suc k)) (rights_from n mask j (suc k))) ≤ suc j
      at ih true = omega arith
      at ih false = omega arith

-- those of a target ascend, and there are no more than members and the row
module _ (l : Listing) (target : ℕ) where
  pub rights_ascending : width_of l target ≤ column_bound → Ascending (rights_of l target)
  unfolding rights_of rights_in
  rights_ascending few =
      ascending_from (width_of l target) (l.rights target) (omega arith) (suc (width_of l target)) 0 (omega arith)

  pub rights_length : length (rights_of l target) ≤ suc (width_of l target)
  unfolding rights_of rights_in
  rights_length = length_from (width_of l target) (l.rights target) (suc (width_of l target)) 0

-- the bits from i to n
module _ (n i : ℕ) (h : i ≤ n) where
  full_but : 2 ^ suc n - 2 ^ i ≡ 2 ^ suc n - 1 - (2 ^ i - 1)
  full_but = omega (arith, pow_pos i)

  some_less : 2 ^ i - 1 < 2 ^ suc n
  some_less = let l : i ≤ suc n = omega arith in omega (arith, pow_pos i, pow_mono l)

  within : (k : ℕ) → k ≤ n → bit (2 ^ suc n - 2 ^ i) k ≡ 1 - bit (2 ^ i - 1) k
  within k l = ap (λ (z : ℕ). bit z k) full_but ∙ bit_complement (suc n) (2 ^ i - 1) k some_less (omega arith)

  range_below : (k : ℕ) → k < i → bit (2 ^ suc n - 2 ^ i) k ≡ 0
  range_below k l = omega (arith, within k (omega arith), bit_full i k l)

  range_from : (k : ℕ) → i ≤ k → k ≤ n → bit (2 ^ suc n - 2 ^ i) k ≡ 1
  range_from k l u =
      let p : 2 ^ i - 1 < 2 ^ i = omega (arith, pow_pos i) in
      omega (arith, within k u, bit_past (2 ^ i - 1) i k p l)

  range_lt : 2 ^ suc n - 2 ^ i < 2 ^ suc n
  range_lt = omega (arith, pow_pos i, some_less)

  range_bit : (k : ℕ) → (bit (2 ^ suc n - 2 ^ i) k ≡ 1) ↔ ((i ≤ k) × (k ≤ n))
  range_bit k = (λ e. at e (dec_lt k i) (dec_lt n k), λ f. range_from k f.0 f.1)
    where
      at : bit (2 ^ suc n - 2 ^ i) k ≡ 1 → Dec (k < i) → Dec (n < k) → (i ≤ k) × (k ≤ n)
      at e (yes l) u = absurd (omega (arith, range_below k l))
      at e (no l) (yes u) = absurd (omega (arith, bit_past (2 ^ suc n - 2 ^ i) (suc n) k range_lt u))
      at e (no l) (no u) = (omega arith, omega arith)

-- the rights of a table are its own columns and the row
module _ (cat : List ℕ) (target : ℕ) where
  pub own_rights_lt : own_rights cat target < 2 ^ suc (visible cat target)
  own_rights_lt = range_lt (visible cat target) (inherited cat target) (inherited_visible cat target)

  pub own_rights_bit : (k : ℕ) → (bit (own_rights cat target) k ≡ 1)
      ↔ ((inherited cat target ≤ k) × (k ≤ visible cat target))
  own_rights_bit k = range_bit (visible cat target) (inherited cat target) (inherited_visible cat target) k

  -- a right side is an own column, by its visible number, or the row
  pub right_is : (a : ℕ)
      → Memᴰ a (rights_of (ordinary cat) target)
      ↔ (((inherited cat target ≤ a) × (a < visible cat target)) ⊎ (a ≡ row))
  unfolding rights_of
  right_is a = (
    λ m. let w = (mem_rights n (own_rights cat target) a).0 m in there w.0 w.1 w.2 (ℕ_discrete w.0 n),
    λ w. (mem_rights n (own_rights cat target) a).1 (back w),
  )
    where
      n : ℕ
      n = visible cat target

      there : (k : ℕ) → k ≤ n → StandsFor n (own_rights cat target) k a → Dec (k ≡ n)
          → ((inherited cat target ≤ a) × (a < n)) ⊎ (a ≡ row)
      there k u w (yes e) = inr (w.1 ∙ ap (right_at n) e ∙ right_at_row n)
      there k u w (no e) =
          let o = ((own_rights_bit k).0 w.0).0 in
          let l : k < n = omega arith in
          let q : a ≡ k = w.1 ∙ right_at_column n k l in
          inl (omega arith, omega arith)

      back : ((inherited cat target ≤ a) × (a < n)) ⊎ (a ≡ row)
          → (k : ℕ) × (k ≤ n) × StandsFor n (own_rights cat target) k a
      back (inl w) =
          let o = w.0 in
          let u = w.1 in
          (a, omega arith, ((own_rights_bit a).1 (o, omega arith), sym (right_at_column n a u)))
      back (inr e) =
          (n, omega arith, ((own_rights_bit n).1 (inherited_visible cat target, omega arith), e ∙ sym (right_at_row n)))

-- the ordinary listing of an accepted catalogue is within the bounds
pub ordinary_bounded : (cat : List ℕ) → Accepted cat → Bounded (ordinary cat)
ordinary_bounded cat ok =
    record {
      targets = accepted_tables cat ok;
      members = λ target h. accepted_visible cat ok target h;
    }

-- and the row is a right of each of its targets
pub ordinary_row : (cat : List ℕ) → RowRight (ordinary cat)
ordinary_row cat target known = (right_is cat target row).1 (inr refl)
