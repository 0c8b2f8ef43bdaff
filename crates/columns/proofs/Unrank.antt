-- The set at an index: in the sets of one size from the last column down, and in the whole order by passing sizes.
use Rattle.std.specs.Prelude.{Some, None}
use Prim.Native.Nat.{ℕ, zero, suc, ◌+◌, ◌-◌, ◌^◌, ◌≤◌, ◌<◌}
use mathlib.Core.Path.{◌≡◌, refl, sym, ap, ◌∙◌, subst, subst₂}
use mathlib.Core.List.{List, [], ◌∷◌, ◌++◌, map}
use native.Mathlib.Decide.{dec_lt}
use native.Mathlib.Nat.{zero-add, sub-zero, suc-sub-suc}
use native.Mathlib.Numerals.{add-one}
use native.Mathlib.Omega.{arith}
use lib.ListN.{length, get_or, get_or-append}
use lib.Seq.{get_or-append-add}
use Rattle.columns.specs.Set.{set_of}
use Rattle.columns.specs.Order.{of_size, by_size_from, in_order, nth}
use Rattle.columns.proofs.Pascal.{of_size_suc_suc, of_size_suc_zero, length_suc_suc, length_none}
use Rattle.columns.proofs.Pascal.{length_over}
use Rattle.columns.proofs.Lists.{nth_get_d, nth_append_left, get_d_mem}
use Rattle.columns.proofs.Order.{mem_of_size}

get_d_map : (f : ℕ → ℕ) (l : List ℕ) (i : ℕ) → i < length l → get_or (map f l) i 0 ≡ f (get_or l i 0)
get_d_map f [] i h = absurd (omega arith)
get_d_map f (x ∷ xs) zero h = refl
get_d_map f (x ∷ xs) (suc i) h = get_d_map f xs i (omega arith)

-- first stand the sets without the last column
without_last : (n k i : ℕ) → i < length (of_size n k) → get_or (of_size (suc n) k) i 0 ≡ get_or (of_size n k) i 0
without_last n zero i h = ap (λ (l : List ℕ). get_or l i 0) (of_size_suc_zero n)
without_last n (suc k) i h =
    ap (λ (l : List ℕ). get_or l i 0) (of_size_suc_suc n k)
    ∙ get_or-append (of_size n (suc k)) (map (λ (x : ℕ). x + 2 ^ n) (of_size n k)) 0 i h

-- then those with it
record With (n k i : ℕ) : Type 0 where
  some : 0 < k
  inside : i - length (of_size n k) < length (of_size n (k - 1))
  same : get_or (of_size (suc n) k) i 0 ≡ get_or (of_size n (k - 1)) (i - length (of_size n k)) 0 + 2 ^ n

with_last : (n k i : ℕ) → length (of_size n k) ≤ i → i < length (of_size (suc n) k) → With n k i
with_last n zero i l h = absurd (omega (arith, length_none n, length_none (suc n)))
with_last n (suc k) i l h =
    let e : k ≡ suc k - 1 = omega arith in
    let u : i - length (of_size n (suc k)) < length (of_size n k) = omega (arith, length_suc_suc n k) in
    let p : i ≡ length (of_size n (suc k)) + (i - length (of_size n (suc k))) = omega arith in record {
      some = omega arith;
      inside = subst (λ (j : ℕ). i - length (of_size n (suc k)) < length (of_size n j)) e u;
      same =
          ap (λ (m : List ℕ). get_or m i 0) (of_size_suc_suc n k)
          ∙ ap (λ (j : ℕ). get_or (of_size n (suc k) ++ map (λ (x : ℕ). x + 2 ^ n) (of_size n k)) j 0) p
          ∙ get_or-append-add (of_size n (suc k)) (map (λ (x : ℕ). x + 2 ^ n) (of_size n k))
          (i - length (of_size n (suc k))) 0
          ∙ get_d_map (λ (x : ℕ). x + 2 ^ n) (of_size n k) (i - length (of_size n (suc k))) u
          ∙ ap (λ (j : ℕ). get_or (of_size n j) (i - length (of_size n (suc k))) 0 + 2 ^ n) e;
    }

at_lt : (n k i : ℕ) → i < length (of_size n k) → get_or (of_size n k) i 0 < 2 ^ n
at_lt n k i h = (mem_of_size n k _ (get_d_mem (of_size n k) i h)).0

-- on the way down from the last column: what is found of the set sought, and what stands at `left` among the sets of
-- m columns with `size` members, make up the set
pub record Sought (n k index m size left set : ℕ) : Type 0 where
  pub inside : left < length (of_size m size)
  pub same : set + get_or (of_size m size) left 0 ≡ get_or (of_size n k) index 0

pub sought_begun : (n k index : ℕ) → index < length (of_size n k) → Sought n k index n k index 0
sought_begun n k index h = record { inside = h; same = zero-add (get_or (of_size n k) index 0) }

-- no set has more members than there are columns
pub sought_size : (n k index m size left set : ℕ) → Sought n k index m size left set → size ≤ m
sought_size n k index m size left set s =
    elim (dec_lt m size) [
      | yes h ↦ absurd (omega (arith, s.inside, length_over m size h))
      | no h ↦ omega arith
    ]

-- one column less: the set does not have it
pub sought_without : (n k index m size left set : ℕ) → 0 < m → left < length (of_size (m - 1) size)
    → Sought n k index m size left set → Sought n k index (m - 1) size left set
sought_without n k index m size left set p h s =
    let e : suc (m - 1) ≡ m = omega arith in record {
      inside = h;
      same =
          ap (λ (x : ℕ). set + x) (sym (without_last (m - 1) size left h))
          ∙ ap (λ (j : ℕ). set + get_or (of_size j size) left 0) e ∙ s.same;
    }

-- or the set has it: c sets are passed
pub record Taken (n k index m size left set c : ℕ) : Type 0 where
  pub some : 0 < size
  pub small : set + 2 ^ (m - 1) < 2 ^ n
  pub rest : Sought n k index (m - 1) (size - 1) (left - c) (set + 2 ^ (m - 1))

pub sought_with : (n k index m size left set c : ℕ) → index < length (of_size n k) → 0 < m
    → c ≡ length (of_size (m - 1) size) → c ≤ left → Sought n k index m size left set
    → Taken n k index m size left set c
sought_with n k index m size left set c i p e h s = record {
  some = w.some;
  small = omega (arith, whole, at_lt n k index i);
  rest = record { inside = omega (arith, e, w.inside); same = whole };
}
  where
    d : suc (m - 1) ≡ m
    d = omega arith

    w : With (m - 1) size left
    w =
        with_last (m - 1) size left (omega arith)
        (subst (λ (j : ℕ). left < length (of_size j size)) (sym d) s.inside)

    whole : set + 2 ^ (m - 1) + get_or (of_size (m - 1) (size - 1)) (left - c) 0 ≡ get_or (of_size n k) index 0
    whole =
        let f = ap (λ (j : ℕ). get_or (of_size (m - 1) (size - 1)) (left - j) 0) e in
        let g = ap (λ (j : ℕ). get_or (of_size j size) left 0) d in
        omega (arith, s.same, w.same, f, g)

-- of no column there is the empty set
pub sought_found : (n k index m size left set : ℕ) → m ≤ 0 → Sought n k index m size left set
    → set ≡ get_or (of_size n k) index 0
sought_found n k index zero size left set h s =
    omega (arith, s.same, at_lt 0 size left s.inside)
sought_found n k index (suc m) size left set h s = absurd (omega arith)

-- the sizes below k are passed, and what stands at `left` in the rest stands at the index in the whole
nth_append_right : (l r : List ℕ) (i : ℕ) → length l ≤ i → nth (l ++ r) i ≡ nth r (i - length l)
unfolding nth
nth_append_right [] r i h = ap (nth r) (sym (sub-zero i))
nth_append_right (x ∷ xs) r zero h = absurd (omega arith)
nth_append_right (x ∷ xs) r (suc i) h =
    nth_append_right xs r i (omega arith) ∙ ap (nth r) (sym (suc-sub-suc i (length xs)))

pub record SizesPassed (n index k left : ℕ) : Type 0 where
  pub inside : k ≤ suc n
  pub same : nth (in_order n) index ≡ nth (by_size_from n (suc n - k) k) left

pub passed_none : (n index : ℕ) → SizesPassed n index 0 index
unfolding in_order
passed_none n index = record {
  inside = omega arith;
  same = ap (λ (m : ℕ). nth (by_size_from n m 0) index) (sym (sub-zero (suc n)));
}

-- what is left of the order begins with the sets of size k
rest : (n index k left : ℕ) → k ≤ n → SizesPassed n index k left
    → nth (in_order n) index ≡ nth (of_size n k ++ by_size_from n (n - k) (suc k)) left
unfolding by_size_from
rest n index k left h p =
    let e : suc n - k ≡ suc (n - k) = omega arith in
    p.same ∙ ap (λ (m : ℕ). nth (by_size_from n m k) left) e

pass : (n index k left : ℕ) → k ≤ n → length (of_size n k) ≤ left → SizesPassed n index k left
    → SizesPassed n index (suc k) (left - length (of_size n k))
pass n index k left h l p = record {
  inside = omega arith;
  same =
      rest n index k left h p
      ∙ nth_append_right (of_size n k) (by_size_from n (n - k) (suc k)) left l
      ∙ ap (λ (m : ℕ). nth (by_size_from n m (suc k)) (left - length (of_size n k))) (sym (suc-sub-suc n k));
}

pub passed_more : (n index k left c : ℕ) → k ≤ n → c ≡ length (of_size n k) → c ≤ left → SizesPassed n index k left
    → SizesPassed n index (k + 1) (left - c)
passed_more n index k left c h e l p =
    subst₂ (λ (i j : ℕ). SizesPassed n index i (left - j)) (sym (add-one k)) (sym e)
    (pass n index k left h (omega arith) p)

pub passed_found : (n index k left : ℕ) → k ≤ n → left < length (of_size n k) → SizesPassed n index k left
    → nth (in_order n) index ≡ Some (set_of (get_or (of_size n k) left 0))
passed_found n index k left h l p =
    rest n index k left h p ∙ nth_append_left (of_size n k) (by_size_from n (n - k) (suc k)) left l
    ∙ nth_get_d (of_size n k) left l

pub passed_all : (n index k left : ℕ) → n < k → SizesPassed n index k left → nth (in_order n) index ≡ None
unfolding by_size_from nth
passed_all n index k left h p =
    let e : suc n - k ≡ 0 = omega arith in
    p.same ∙ ap (λ (m : ℕ). nth (by_size_from n m k) left) e
