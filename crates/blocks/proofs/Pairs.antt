-- The pairs behind the seeds: writing the left sides of a block, and adding a right to each by its plane.
use Prim.Native.Nat.{ℕ, suc, ◌+◌, ◌/◌, ◌^◌, ◌≤◌, ◌<◌}
use mathlib.Core.Path.{◌≡◌, sym, ap, subst, ◌∙◌}
use mathlib.Core.Bool.{Bool, true, false}
use mathlib.Core.List.{List, [], ◌∷◌, Memᴰ}
use native.Mathlib.Decide.{ℕ_discrete}
use native.Mathlib.Omega.{arith}
use lib.ListN.{length, set, length-set}
use lib.Pow.{pow_mono}
use lib.Seq.{get_or-set_same, get_or-set_other}
use Rattle.std.specs.Prelude.{Some, None}
use Rattle.columns.specs.Bound.{column_bound}
use Rattle.columns.specs.Order.{in_order, first, after, next_of}
use Rattle.columns.specs.Set.{set_of}
use Rattle.columns.specs.Test.{pick}
use Rattle.columns.specs.declared.ColumnSet.{ColumnSet}
use Rattle.columns.proofs.Order.{mem_in_order}
use Rattle.columns.proofs.Test.{if_eq_yes, if_eq_no, if_le_yes}
use Rattle.table.specs.Words.{word}
use Rattle.planes.specs.Plane.{seed_words}
use Rattle.planes.proofs.Bits.{power_words}
use Rattle.blocks.specs.Cache.{pairs_at, left_at, Added, AddedBelow, PairsBelow}

-- the next left side is one of n columns
first_mem : (y : ℕ) (ys : List ℕ) → first ys ≡ Some (set_of y) → Memᴰ y ys
unfolding first
first_mem y [] e = let z : ◌≡◌ {A = ℕ} 0 1 = cc in absurd (omega arith)
first_mem y (z ∷ ys) e =
    let s : set_of z ≡ set_of y = cc in
    Memᴰ.head (sym (ap (λ (c : ColumnSet). c.bits) s))

after_mem : (x y : ℕ) (ys : List ℕ) → after x ys ≡ Some (set_of y) → Memᴰ y ys
unfolding after
after_mem x y [] e = let z : ◌≡◌ {A = ℕ} 0 1 = cc in absurd (omega arith)
after_mem x y (z ∷ ys) e = at (after_mem x y ys) (ℕ_discrete x z)
  where
    at : (after x ys ≡ Some (set_of y) → Memᴰ y ys) → Dec (x ≡ z) → Memᴰ y (z ∷ ys)
    at later (yes i) = Memᴰ.tail (first_mem y ys (sym (if_eq_yes (after x ys) i) ∙ e))
    at later (no n) = Memᴰ.tail (later (sym (if_eq_no (first ys) n) ∙ e))

pub next_below : (n x y : ℕ) → n ≤ column_bound → next_of n x ≡ Some (set_of y) → y < 2 ^ n
unfolding next_of
next_below n x y b e = mem_in_order n y (after_mem x y (in_order n) (sym (if_le_yes None b) ∙ e))

-- j left sides are written, and x is the next
pub record LeftsBelow (n first x j : ℕ) (before after : List ℕ) : Type 0 where
  pub same_length : length after ≡ length before
  pub next : x < 2 ^ n
  pub begun : j ≡ 0 → x ≡ first
  pub kept : (i : ℕ) → i < pairs_at n → word after i ≡ word before i
  pub first_left : 0 < j → word after (left_at n 0) ≡ first
  pub lefts : (i : ℕ) → i < j → word after (left_at n i) < 2 ^ n
  pub none : (i : ℕ) → i < j → word after (suc (left_at n i)) ≡ 0

module _ (n first x j at y : ℕ) (before after : List ℕ) (is : at ≡ left_at n j)
    (fits : left_at n (suc j) ≤ length before)
    (below : y < 2 ^ n) (l : LeftsBelow n first x j before after) where
  abbrev new : List ℕ
  new = set (set after at x) (at + 1) 0

  other : (i : ℕ) → (i ≡ at → ⊥) → (i ≡ at + 1 → ⊥) → word new i ≡ word after i
  other i a b = get_or-set_other (set after at x) (at + 1) i 0 0 b ∙ get_or-set_other after at i x 0 a

  left : word new at ≡ x
  left =
      get_or-set_other (set after at x) (at + 1) at 0 0 (λ e. omega arith)
      ∙ get_or-set_same after at x 0 (omega (arith, l.same_length))

  right : word new (at + 1) ≡ 0
  right = get_or-set_same (set after at x) (at + 1) 0 0 (omega (arith, length-set after at x, l.same_length))

  first_of : Dec (j ≡ 0) → word new (left_at n 0) ≡ first
  first_of (yes e) = let p : left_at n 0 ≡ at = omega arith in ap (word new) p ∙ left ∙ l.begun e
  first_of (no d) =
      other (left_at n 0) (λ e. d (omega arith)) (λ e. omega arith) ∙ l.first_left (omega arith)

  left_of : (i : ℕ) → i < j + 1 → Dec (i ≡ j) → word new (left_at n i) < 2 ^ n
  left_of i h (yes e) =
      let p : left_at n i ≡ at = omega arith in
      omega (arith, ap (word new) p ∙ left, l.next)
  left_of i h (no d) =
      omega (arith, other (left_at n i) (λ e. d (omega arith)) (λ e. omega arith), l.lefts i (omega arith))

  none_of : (i : ℕ) → i < j + 1 → Dec (i ≡ j) → word new (suc (left_at n i)) ≡ 0
  none_of i h (yes e) = let p : suc (left_at n i) ≡ at + 1 = omega arith in ap (word new) p ∙ right
  none_of i h (no d) =
      other (suc (left_at n i)) (λ e. omega arith) (λ e. d (omega arith)) ∙ l.none i (omega arith)

  pub lefts_more : LeftsBelow n first y (j + 1) before (set (set after at x) (at + 1) 0)
  lefts_more =
      record {
        same_length = length-set (set after at x) (at + 1) 0 ∙ length-set after at x ∙ l.same_length;
        next = below;
        begun = λ e. absurd (omega arith);
        kept = λ i h. other i (λ e. omega arith) (λ e. omega arith) ∙ l.kept i h;
        first_left = λ h. first_of (ℕ_discrete j 0);
        lefts = λ i h. left_of i h (ℕ_discrete i j);
        none = λ i h. none_of i h (ℕ_discrete i j);
      }

pick_le : (t : Bool) (p : ℕ) → pick t p 0 ≤ p
pick_le true p = omega arith
pick_le false p = omega arith

-- what a right adds
pub added_le : (plane : List ℕ) (x a r : ℕ) → Added plane x a r → r ≤ 2 ^ a
added_le plane x a r d = omega (arith, d.value, pick_le d.test (2 ^ a))

module _ (n a j at r : ℕ) (plane before after : List ℕ) (is : at ≡ left_at n j) (inside : at + 1 < length after)
    (d : Added plane (word after at) a r) (b : AddedBelow n a j plane before after) where
  abbrev sum : List ℕ
  sum = set after (at + 1) (word after (at + 1) + r)

  unchanged : (i : ℕ) → (i ≡ at + 1 → ⊥) → word sum i ≡ word after i
  unchanged i m = get_or-set_other after (at + 1) i (word after (at + 1) + r) 0 m

  abbrev AddedAt : ℕ → Type 0
  AddedAt i =
      (s : ℕ) × Added plane (word before (left_at n i)) a s
      × (word sum (suc (left_at n i)) ≡ word before (suc (left_at n i)) + s)

  here : AddedAt j
  here =
      let p : suc (left_at n j) ≡ at + 1 = omega arith in (
        r,
        subst (λ (z : ℕ). Added plane z a r) (ap (word after) is ∙ b.lefts j) d,
        ap (word sum) p ∙ get_or-set_same after (at + 1) (word after (at + 1) + r) 0 inside
            ∙ ap (λ (z : ℕ). z + r) (ap (word after) (sym p) ∙ b.rest j (omega arith)),
      )

  rights_of : (i : ℕ) → i < j + 1 → Dec (i ≡ j) → AddedAt i
  rights_of i h (yes e) = subst (λ (z : ℕ). AddedAt z) (sym e) here
  rights_of i h (no m) =
      let f = b.rights i (omega arith) in
      (f.0, f.1, unchanged (suc (left_at n i)) (λ e. m (omega arith)) ∙ f.2)

  pub adding_more : AddedBelow n a (j + 1) plane before (set after (at + 1) (word after (at + 1) + r))
  adding_more =
      record {
        kept = λ i l. unchanged i (λ e. omega arith) ∙ b.kept i l;
        lefts = λ i. unchanged (left_at n i) (λ e. omega arith) ∙ b.lefts i;
        rest = λ i l. unchanged (suc (left_at n i)) (λ e. omega arith) ∙ b.rest i (omega arith);
        rights = λ i l. rights_of i l (ℕ_discrete i j);
      }

-- the plane has a bit for the left side of pair j, and the sum of its rights fits
pub adding_index : (n a j at count : ℕ) (plane before after : List ℕ) → 5 ≤ n → at ≡ left_at n j → j < count
    → seed_words n ≤ length plane → PairsBelow n a count before → AddedBelow n a j plane before after
    → word after at / 32 < length plane
adding_index n a j at count plane before after h is l enough p b =
    let e : word after at ≡ word before (left_at n j) = ap (word after) is ∙ b.lefts j in
    let s = p.lefts j l in
    omega (arith, power_words n h)

pub adding_fits : (n a j at count x r : ℕ) (plane before after : List ℕ) → a ≤ column_bound → at ≡ left_at n j
    → j < count
    → PairsBelow n a count before → AddedBelow n a j plane before after → Added plane x a r
    → word after (at + 1) + r < 2 ^ 32
adding_fits n a j at count x r plane before after h is l p b d =
    let i : at + 1 ≡ suc (left_at n j) = omega arith in
    let e : word after (at + 1) ≡ word before (suc (left_at n j)) = ap (word after) i ∙ b.rest j (omega arith) in
    let s = p.rights j l in
    omega (arith, added_le plane x a r d, pow_mono {i = a} {j = 16} h)
