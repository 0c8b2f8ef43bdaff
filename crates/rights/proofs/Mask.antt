-- Laws of the entries that a number of rights stands for: the listed rights give the entries of the listing, there is
-- one for each bit that is 1, and the lowest bit is the first of them.
use Prim.Native.Nat.{ℕ, zero, suc, ◌+◌, ◌-◌, ◌/◌, ◌%◌, ◌^◌, ◌≤◌, ◌<◌}
use mathlib.Core.Path.{◌≡◌, refl, sym, ap, ap₂, ◌∙◌}
use mathlib.Core.Logic.{◌⊎◌, inl, inr}
use mathlib.Core.List.{List, [], ◌∷◌}
use mathlib.Core.Bool.{Bool, true, false, ◌&&◌}
use native.Mathlib.Nat.{add-zero, div-eq_of_lt, two-pow-succ, zero-add, div-one}
use native.Mathlib.Numerals.{add-one}
use native.Mathlib.Decide.{ℕ_discrete}
use native.Mathlib.Omega.{arith}
use lib.Pow.{shr-shr}
use lib.ListN.{length}
use lib.Count.{ones, ones_in, ones_step, count_trailing_zeros, under}
use Rattle.columns.specs.Set.{bit, without_of}
use Rattle.columns.specs.Test.{pick, if_eq}
use Rattle.columns.proofs.Test.{if_eq_yes, if_eq_no}
use Rattle.columns.proofs.Bits.{bit_zero, bit_suc, bit_past, bit_without_same, bit_without_other, without_some}
use Rattle.columns.proofs.SetBelow.{set_below_bit, set_below_lt}
use Rattle.model.specs.View.{View, is_in}
use Rattle.model.specs.Listed.{listed}
use Rattle.model.specs.Rights.{right_at, rights_from, rights_in}
use Rattle.model.specs.Listing.{Listing, width_of, rights_of, entries_of}
use Rattle.model.specs.Entry.{entry}
use Rattle.model.specs.declared.Entry.{Entry}
use Rattle.model.proofs.Calls.{le_or_lt}
use Rattle.rights.specs.Rights.{listed_mask, listed_rights, entries_in, entries_of_mask, lowest}

-- the listed rights of a view are a number of n + 1 bits
pub mask_lt : (v : View) (own x : ℕ) → listed_mask v own x < 2 ^ suc v.members
mask_lt v own x = set_below_lt (suc v.members) (λ k. is_in k own && listed v x (right_at v.members k))

module _ (t x n m : ℕ) where
  -- one bit
  in_yes : (j k : ℕ) → bit m k ≡ 1 → entries_in t x n m (suc j) k ≡ entry t x (right_at n k) ∷ entries_in t x n m j (suc k)
  unfolding entries_in
  in_yes j k e = if_eq_yes _ e

  in_no : (j k : ℕ) → bit m k ≡ 0 → entries_in t x n m (suc j) k ≡ entries_in t x n m j (suc k)
  unfolding entries_in
  in_no j k e = if_eq_no _ (λ (o : bit m k ≡ 1). omega arith)

  -- as many as bits are 1
  in_count : (j k : ℕ) → m < 2 ^ (k + j) → length (entries_in t x n m j k) ≡ ones (m / 2 ^ k)
  unfolding entries_in ones ones_in
  in_count zero k h =
      let z : m / 2 ^ k ≡ 0 = div-eq_of_lt (rw (add-zero k) at h) in
      sym (ap ones z)
  in_count (suc j) k h = at (in_count j (suc k) (rw (shift) at h)) (ℕ_discrete (bit m k) 1)
    where
      shift : k + suc j ≡ suc k + j
      shift = omega arith

      halved : m / 2 ^ k / 2 ≡ m / 2 ^ suc k
      halved = shr-shr m k 1 ∙ ap (λ (i : ℕ). m / 2 ^ i) (add-one k)

      counted : ones (m / 2 ^ k) ≡ bit m k + ones (m / 2 ^ suc k)
      counted = ones_step (m / 2 ^ k) ∙ ap (λ (i : ℕ). bit m k + ones i) halved

      at : length (entries_in t x n m j (suc k)) ≡ ones (m / 2 ^ suc k) → Dec (bit m k ≡ 1)
          → length (entries_in t x n m (suc j) k) ≡ ones (m / 2 ^ k)
      at ih (yes e) = omega (arith, ap length (in_yes j k e), counted)
      at ih (no f) =
          let z : bit m k ≡ 0 = omega arith in
          omega (arith, ap length (in_no j k z), counted)

  pub entries_count : m < 2 ^ suc n → length (entries_of_mask t x n m) ≡ ones m
  unfolding entries_of_mask
  entries_count h =
      in_count (suc n) 0 (rw (zero-add (suc n)) h) ∙ ap ones (div-one m)

-- numbers with the same bits from k on
in_same : (t x n m o : ℕ) (j k : ℕ) → ((a : ℕ) → k ≤ a → bit m a ≡ bit o a)
    → entries_in t x n m j k ≡ entries_in t x n o j k
unfolding entries_in
in_same t x n m o zero k e = refl
in_same t x n m o (suc j) k e =
    ap₂ (λ (b : ℕ) (l : List Entry). if_eq b 1 (entry t x (right_at n k) ∷ l) l) (e k (omega arith))
    (in_same t x n m o j (suc k) (λ a h. e a (omega arith)))

-- the first of them, and the others
module _ (t x n m k : ℕ) (is : bit m k ≡ 1) (none : (a : ℕ) → a < k → bit m a ≡ 0) where
  first : (d s w : ℕ) → s + d ≡ k → s + w ≡ suc n → k ≤ n
      → entries_in t x n m w s ≡ entry t x (right_at n k) ∷ entries_in t x n (without_of m k) w s
  first d s zero e f h = absurd (omega arith)
  first zero s (suc w) e f h =
      let q : s ≡ k = omega arith in
      rw q (in_yes t x n m w k is
      ∙ ap (λ (l : List Entry). entry t x (right_at n k) ∷ l)
      (in_same t x n m (without_of m k) w (suc k) (λ a l. sym (bit_without_other m a k (λ (p : a ≡ k). omega arith)))
      ∙ sym (in_no t x n (without_of m k) w k (bit_without_same m k))))
  first (suc d) s (suc w) e f h =
      in_no t x n m w s (none s (omega arith)) ∙ first d (suc s) w (omega arith) (omega arith) h
      ∙ ap (λ (l : List Entry). entry t x (right_at n k) ∷ l)
      (sym (in_no t x n (without_of m k) w s
      (bit_without_other m s k (λ (p : s ≡ k). omega arith) ∙ none s (omega arith))))

  pub entries_first : k ≤ n → entries_of_mask t x n m ≡ entry t x (right_at n k) ∷ entries_of_mask t x n (m - 2 ^ k)
  unfolding entries_of_mask
  entries_first h =
      first k 0 (suc n) (omega arith) (omega arith) h
      ∙ ap (λ (o : ℕ). entry t x (right_at n k) ∷ entries_in t x n o (suc n) 0) (without_some m k is)

-- the lowest bit that is 1
pub lowest_in : (w m : ℕ) → 0 < m → m < 2 ^ w
    → (bit m (count_trailing_zeros w m) ≡ 1) × ((a : ℕ) → a < count_trailing_zeros w m → bit m a ≡ 0)
unfolding count_trailing_zeros
lowest_in zero m p h = absurd (omega arith)
lowest_in (suc w) m p h = at (m % 2) refl (λ (q : 0 < m / 2). lowest_in w (m / 2) q (omega (arith, two-pow-succ w)))
  where
    at : (d : ℕ) → m % 2 ≡ d
        → (0 < m / 2 → (bit (m / 2) (count_trailing_zeros w (m / 2)) ≡ 1)
        × ((a : ℕ) → a < count_trailing_zeros w (m / 2) → bit (m / 2) a ≡ 0))
        → (bit m (under d (count_trailing_zeros w (m / 2))) ≡ 1)
        × ((a : ℕ) → a < under d (count_trailing_zeros w (m / 2)) → bit m a ≡ 0)
    at zero e ih =
        let i = ih (omega arith) in
        (bit_suc m (count_trailing_zeros w (m / 2)) ∙ i.0, below i.1)
      where
        below : ((a : ℕ) → a < count_trailing_zeros w (m / 2) → bit (m / 2) a ≡ 0)
            → (a : ℕ) → a < suc (count_trailing_zeros w (m / 2)) → bit m a ≡ 0
        below f zero l = bit_zero m ∙ e
        below f (suc a) l = bit_suc m a ∙ f a (omega arith)
    at (suc zero) e ih = (bit_zero m ∙ e, λ a l. absurd (omega arith))
    at (suc (suc d)) e ih = absurd (omega arith)

module _ (t x n m : ℕ) (some : 0 < m) (below : m < 2 ^ suc n) (word : m < 2 ^ 32) where
  pub lowest_bit : bit m (lowest m) ≡ 1
  unfolding lowest
  lowest_bit = (lowest_in 32 m some word).0

  pub lowest_le : lowest m ≤ n
  lowest_le = at (le_or_lt (suc n) (lowest m))
    where
      at : (suc n ≤ lowest m) ⊎ (lowest m < suc n) → lowest m ≤ n
      at (inl h) = absurd (let z = bit_past m (suc n) (lowest m) below h in omega (arith, lowest_bit))
      at (inr h) = omega arith

  -- what the number stands for is the entry of its lowest bit, and then what it stands for without that bit
  pub entries_lowest : entries_of_mask t x n m ≡ entry t x (right_at n (lowest m)) ∷ entries_of_mask t x n (m - 2 ^ lowest m)
  unfolding lowest
  entries_lowest =
      entries_first t x n m (lowest m) (lowest_in 32 m some word).0 (lowest_in 32 m some word).1 lowest_le

-- none
pub entries_none : (t x n m : ℕ) → m ≡ 0 → entries_of_mask t x n m ≡ []
unfolding entries_in entries_of_mask
entries_none t x n m e = ap (entries_of_mask t x n) e ∙ nothing (suc n) 0
  where
    nothing : (j k : ℕ) → entries_in t x n 0 j k ≡ []
    nothing zero k = refl
    nothing (suc j) k = in_no t x n 0 j k (bit_past 0 0 k (omega arith) (omega arith)) ∙ nothing j (suc k)

-- the listed rights give the entries of the listing
module _ (l : Listing) (t x : ℕ) where
  mask_bit : (k : ℕ) → k ≤ width_of l t
      → bit (listed_rights l t x) k ≡ pick (is_in k (l.rights t) && listed (l.view t) x (right_at (width_of l t) k)) 1 0
  mask_bit k h =
      set_below_bit (suc (width_of l t)) (λ k. is_in k (l.rights t) && listed (l.view t) x (right_at (width_of l t) k)) k
      (omega arith)

  chosen : (g : Bool) (e : Entry) (es : List Entry) → pick g (e ∷ es) es ≡ if_eq (pick g 1 0) 1 (e ∷ es) es
  chosen true e es = sym (if_eq_yes es refl)
  chosen false e es = sym (if_eq_no (e ∷ es) (λ (o : 0 ≡ 1). omega arith))

  -- one bit: as the listing has it, and as the number has it
  one : (g : Bool) (a : ℕ) (rs : List ℕ)
      → entries_of l t x (pick g (a ∷ rs) rs)
      ≡ if_eq (pick (g && listed (l.view t) x a) 1 0) 1 (entry t x a ∷ entries_of l t x rs) (entries_of l t x rs)
  unfolding entries_of
  one true a rs = chosen (listed (l.view t) x a) (entry t x a) (entries_of l t x rs)
  one false a rs = sym (if_eq_no (entry t x a ∷ entries_of l t x rs) (λ (o : 0 ≡ 1). omega arith))

  entries_from : (j k : ℕ) → k + j ≤ suc (width_of l t)
      → entries_of l t x (rights_from (width_of l t) (l.rights t) j k)
      ≡ entries_in t x (width_of l t) (listed_rights l t x) j k
  unfolding entries_of entries_in rights_from
  entries_from zero k h = refl
  entries_from (suc j) k h =
      one (is_in k (l.rights t)) (right_at (width_of l t) k) (rights_from (width_of l t) (l.rights t) j (suc k))
      ∙ ap₂ (λ (i : ℕ) (es : List Entry). if_eq i 1 (entry t x (right_at (width_of l t) k) ∷ es) es)
      (sym (mask_bit k (omega arith))) (entries_from j (suc k) (omega arith))

  pub entries_of_rights : entries_of l t x (rights_of l t) ≡ entries_of_mask t x (width_of l t) (listed_rights l t x)
  unfolding rights_of rights_in entries_of_mask
  entries_of_rights = entries_from (suc (width_of l t)) 0 (omega arith)
