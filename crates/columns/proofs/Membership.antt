-- Laws of a set's members: each answer of a set is tied to them, and sets with the same members are alike.
use Rattle.std.specs.Prelude.{Some, None}
use Prim.Native.Nat.{ℕ, zero, suc, ◌+◌, ◌-◌, ◌/◌, ◌%◌, ◌^◌, ◌≤◌, ◌<◌}
use mathlib.Core.Path.{◌≡◌, refl, sym, ap, ap₂, ◌∙◌}
use mathlib.Core.Bool.{Bool, true, false, not, ◌&&◌, and-true}
use mathlib.Core.Logic.{◌⊎◌, inl, inr, ◌↔◌}
use native.Mathlib.Decide.{ℕ_discrete, dec_lt}
use native.Mathlib.Nat.{add-zero, eq-or-lt_of_le, le_of_suc-le-suc, not-suc-le-zero, lt_of_lt_of_le, mod-lt}
use native.Mathlib.Nat.{mod-eq_of_lt}
use native.Mathlib.Numerals.{add-one}
use native.Mathlib.Omega.{arith}
use borrow.Author.Tests.{lt-ltb, le-ltb, eqb-true, eq-eqb, ne_eqb, not-false}
use lib.Count.{ones, ones_in, ones-ones}
use lib.Dec.{ltb, eqb}
use lib.Pow.{pow_pos, pow_mono, ones_lt}
use Rattle.columns.specs.Alike.{Alike}
use Rattle.columns.specs.Bound.{column_bound}
use Rattle.columns.specs.Order.{precedes_of, next_of}
use Rattle.columns.specs.Set.{bit, member_of, set_below, count_below, members_of, member_count, subset_of}
use Rattle.columns.specs.Set.{size_of, without_of, within_of, set_of, full_of}
use Rattle.columns.specs.Test.{pick, if_eq, if_lt}
use Rattle.columns.specs.declared.ColumnSet.{ColumnSet}
use Rattle.columns.proofs.Bits.{bit_below, bit_past, bit_one, bit_full, bits_same, bit_power_le}
use Rattle.columns.proofs.Bits.{bit_without_same, bit_without_other, without_none}
use Rattle.columns.proofs.Bits.{member_bit, bit_member, within_members, members_within}
use Rattle.columns.proofs.Next.{next_absent, next_of_last}
use Rattle.columns.proofs.SetBelow.{set_below_lt, set_below_same, set_below_bit}
use Rattle.columns.proofs.Size.{size_top}
use Rattle.columns.proofs.Test.{if_le_yes, if_le_no}

-- two tests of which either passes if the other does are the same
same_tests : (a b : Bool) → (a ≡ true → b ≡ true) → (b ≡ true → a ≡ true) → a ≡ b
same_tests true b f g = sym (f refl)
same_tests false true f g = g refl
same_tests false false f g = refl

-- membership by bits: below the bound the bit decides, from the bound on there is no member
pub member_below : (x k : ℕ) → k < column_bound → member_of x k ≡ eqb (bit x k) 1
unfolding member_of
member_below x k h = ap (λ (t : Bool). t && eqb (bit x k) 1) (lt-ltb k column_bound h)

pub member_past : (x k : ℕ) → column_bound ≤ k → member_of x k ≡ false
unfolding member_of
member_past x k h = ap (λ (t : Bool). t && eqb (bit x k) 1) (le-ltb k column_bound h)

-- the same bits, the same members
pub member_same : (x y k : ℕ) → (k < column_bound → bit x k ≡ bit y k) → member_of x k ≡ member_of y k
member_same x y k e = at (dec_lt k column_bound)
  where
    at : Dec (k < column_bound) → member_of x k ≡ member_of y k
    at (yes h) = member_below x k h ∙ ap (λ (b : ℕ). eqb b 1) (e h) ∙ sym (member_below y k h)
    at (no n) = member_past x k (omega arith) ∙ sym (member_past y k (omega arith))

member_pick : (x k : ℕ) → k < column_bound → pick (member_of x k) 1 0 ≡ bit x k
member_pick x k h =
    ap (λ (t : Bool). pick {A = ℕ} t 1 0) (member_below x k h) ∙ value (bit x k) (mod-lt (x / 2 ^ k) (omega arith))
  where
    value : (b : ℕ) → b < 2 → pick (eqb b 1) 1 0 ≡ b
    value zero l = refl
    value (suc zero) l = refl
    value (suc (suc b)) l = absurd (omega arith)

-- the members alone: a number below 2^column_bound with the same members, and the set's own number if all its bits are
-- members
pub members_lt : (x : ℕ) → members_of x < 2 ^ column_bound
unfolding members_of
members_lt x = set_below_lt column_bound (member_of x)

pub bit_members : (x k : ℕ) → k < column_bound → bit (members_of x) k ≡ bit x k
unfolding members_of
bit_members x k h = set_below_bit column_bound (member_of x) k h ∙ member_pick x k h

pub members_mod : (x : ℕ) → members_of x ≡ x % 2 ^ column_bound
members_mod x =
    bits_same column_bound (members_of x) (x % 2 ^ column_bound) (members_lt x) (mod-lt x (pow_pos column_bound))
    (λ k h. bit_members x k h ∙ sym (bit_below x k column_bound h))

pub members_own : (n x : ℕ) → n ≤ column_bound → x < 2 ^ n → members_of x ≡ x
members_own n x l h = members_mod x ∙ mod-eq_of_lt (lt_of_lt_of_le h (pow_mono l))

-- a set is told by its members
pub same_members : (x y : ℕ) → ((k : ℕ) → member_of x k ≡ member_of y k) → members_of x ≡ members_of y
unfolding members_of
same_members x y e = set_below_same column_bound (member_of x) (member_of y) (λ k h. e k)

-- counting: none is counted exactly if none passes
pub count_below_none : (n : ℕ) (f : ℕ → Bool) → ((k : ℕ) → k < n → f k ≡ false) → count_below n f ≡ 0
unfolding count_below
count_below_none zero f e = refl
count_below_none (suc n) f e =
    ap₂ (λ (s : ℕ) (t : Bool). s + pick t 1 0) (count_below_none n f (λ k l. e k (omega arith))) (e n (omega arith))

pub none_count_below : (n : ℕ) (f : ℕ → Bool) → count_below n f ≡ 0 → (k : ℕ) → k < n → f k ≡ false
unfolding count_below
none_count_below zero f e k h = absurd (not-suc-le-zero h)
none_count_below (suc n) f e k h =
    at (none_count_below n f (omega arith) k) (eq-or-lt_of_le (le_of_suc-le-suc h))
  where
    none : (t : Bool) → pick {A = ℕ} t 1 0 ≡ 0 → t ≡ false
    none true z = absurd (omega arith)
    none false z = refl

    at : (k < n → f k ≡ false) → (k ≡ n) ⊎ (k < n) → f k ≡ false
    at below (inl i) = ap f i ∙ none (f n) (omega arith)
    at below (inr l) = below l

size_set_below : (n : ℕ) (f : ℕ → Bool) → size_of (set_below n f) ≡ count_below n f
unfolding ones ones_in set_below count_below
size_set_below zero f = refl
size_set_below (suc n) f = at (f n) (size_set_below n f)
  where
    at : (t : Bool) → size_of (set_below n f) ≡ count_below n f
        → size_of (set_below n f + pick t (2 ^ n) 0) ≡ count_below n f + pick t 1 0
    at true e = size_top n (set_below n f) (set_below_lt n f) ∙ ap suc e ∙ sym (add-one (count_below n f))
    at false e = ap size_of (add-zero (set_below n f)) ∙ e ∙ sym (add-zero (count_below n f))

-- how many members: the bits of the members alone
pub size_members : (x : ℕ) → member_count x ≡ size_of (members_of x)
unfolding member_count members_of
size_members x = sym (size_set_below column_bound (member_of x))

pub size_own : (n x : ℕ) → n ≤ column_bound → x < 2 ^ n → member_count x ≡ size_of x
size_own n x l h = size_members x ∙ ap size_of (members_own n x l h)

-- within: exactly if each member of the one is a member of the other
pub subset_is : (x y : ℕ) → (subset_of x y ≡ true) ↔ ((k : ℕ) → member_of x k ≡ true → member_of y k ≡ true)
unfolding subset_of
subset_is x y = (
  λ t k m.
      kept (member_of x k) (member_of y k) m
      (none_count_below column_bound alone (eqb-true (count_below column_bound alone) 0 t) k (member_bit x k m).0),
  λ f. eq-eqb (count_below column_bound alone) 0
      (count_below_none column_bound alone (λ k h. not_alone (member_of x k) (member_of y k) (f k))),
)
  where
    alone : ℕ → Bool
    alone k = member_of x k && not (member_of y k)

    kept : (a b : Bool) → a ≡ true → a && not b ≡ false → b ≡ true
    kept true b e z = not-false b z
    kept false b e z = let y : ◌≡◌ {A = ℕ} 0 1 = cc in absurd (omega arith)

    not_alone : (a b : Bool) → (a ≡ true → b ≡ true) → a && not b ≡ false
    not_alone true b f = ap not (f refl)
    not_alone false b f = refl

pub subset_within : (x y : ℕ) → subset_of x y ≡ within_of (members_of x) (members_of y)
subset_within x y =
    same_tests (subset_of x y) (within_of (members_of x) (members_of y))
    (λ t. members_within (members_of x) (members_of y) (bits ((subset_is x y).0 t)))
    (λ t. (subset_is x y).1 (members (within_members (members_of x) (members_of y) t)))
  where
    bits : ((k : ℕ) → member_of x k ≡ true → member_of y k ≡ true)
        → (k : ℕ) → bit (members_of x) k ≡ 1 → bit (members_of y) k ≡ 1
    bits f k e = at (dec_lt k column_bound)
      where
        at : Dec (k < column_bound) → bit (members_of y) k ≡ 1
        at (yes h) =
            bit_members y k h ∙ (member_bit y k (f k (bit_member x k h (sym (bit_members x k h) ∙ e)))).1
        at (no n) =
            let z : bit (members_of x) k ≡ 0 = bit_past (members_of x) column_bound k (members_lt x) (omega arith) in
            let w : ◌≡◌ {A = ℕ} 0 1 = sym z ∙ e in
            absurd (omega arith)

    members : ((k : ℕ) → bit (members_of x) k ≡ 1 → bit (members_of y) k ≡ 1)
        → (k : ℕ) → member_of x k ≡ true → member_of y k ≡ true
    members f k m =
        let p = member_bit x k m in
        bit_member y k p.0 (sym (bit_members y k p.0) ∙ f k (bit_members x k p.0 ∙ p.1))

-- the empty set has no members, and the full set of n columns exactly those below n
pub member_empty : (k : ℕ) → member_of 0 k ≡ false
member_empty k = at (dec_lt k column_bound)
  where
    at : Dec (k < column_bound) → member_of 0 k ≡ false
    at (yes h) = member_below 0 k h ∙ ap (λ (b : ℕ). eqb b 1) (bit_past 0 0 k (omega arith) (omega arith))
    at (no n) = member_past 0 k (omega arith)

full_is : (n x : ℕ) → full_of n ≡ Some (set_of x) → (n ≤ column_bound) × (x ≡ 2 ^ n - 1)
unfolding full_of
full_is n x e = at (dec_lt column_bound n)
  where
    at : Dec (column_bound < n) → (n ≤ column_bound) × (x ≡ 2 ^ n - 1)
    at (yes h) =
        let f : full_of n ≡ None = if_le_no (Some (set_of (2 ^ n - 1))) h in
        let z : ◌≡◌ {A = ℕ} 0 1 = cc in
        absurd (omega arith)
    at (no m) =
        let l : n ≤ column_bound = omega arith in
        let f : full_of n ≡ Some (set_of (2 ^ n - 1)) = if_le_yes None l in
        let s : set_of x ≡ set_of (2 ^ n - 1) = cc in
        (l, ap (λ (c : ColumnSet). c.bits) s)

pub member_full : (n x k : ℕ) → full_of n ≡ Some (set_of x) → member_of x k ≡ ltb k n
member_full n x k e = let f = full_is n x e in ap (λ (y : ℕ). member_of y k) f.1 ∙ at f.0 (dec_lt k n)
  where
    at : n ≤ column_bound → Dec (k < n) → member_of (2 ^ n - 1) k ≡ ltb k n
    at l (yes h) = bit_member (2 ^ n - 1) k (omega arith) (bit_full n k h) ∙ sym (lt-ltb k n h)
    at l (no m) =
        let b : bit (2 ^ n - 1) k ≡ 0 = bit_past (2 ^ n - 1) n k (ones_lt n) (omega arith) in
        member_same (2 ^ n - 1) 0 k (λ h. b ∙ sym (bit_past 0 0 k (omega arith) (omega arith)))
        ∙ member_empty k ∙ sym (le-ltb k n (omega arith))

pub size_full : (n x : ℕ) → full_of n ≡ Some (set_of x) → member_count x ≡ n
size_full n x e =
    let f = full_is n x e in
    ap member_count f.1 ∙ size_own n (2 ^ n - 1) f.0 (ones_lt n) ∙ ones-ones n

-- without: the column is no member, and every other is one if it was
pub member_without : (x k j : ℕ) → member_of (without_of x k) j ≡ (member_of x j && not (eqb j k))
member_without x k j = at (ℕ_discrete j k)
  where
    never : (a : Bool) → (a && false) ≡ false
    never true = refl
    never false = refl

    at : Dec (j ≡ k) → member_of (without_of x k) j ≡ (member_of x j && not (eqb j k))
    at (yes e) =
        let b : bit (without_of x k) j ≡ 0 = ap (bit (without_of x k)) e ∙ bit_without_same x k in
        member_same (without_of x k) 0 j (λ h. b ∙ sym (bit_past 0 0 j (omega arith) (omega arith)))
        ∙ member_empty j ∙ sym (ap (λ (t : Bool). member_of x j && not t) (eq-eqb j k e) ∙ never (member_of x j))
    at (no n) =
        member_same (without_of x k) x j (λ h. bit_without_other x j k n)
        ∙ sym (ap (λ (t : Bool). member_of x j && not t) (ne_eqb j k n) ∙ and-true (member_of x j))

-- the set without a column, of the members alone
pub without_absent : (x k : ℕ) → member_of x k ≡ false → without_of (members_of x) k ≡ members_of x
without_absent x k m = without_none (members_of x) k (at (dec_lt k column_bound) (ℕ_discrete (bit (members_of x) k) 0))
  where
    at : Dec (k < column_bound) → Dec (bit (members_of x) k ≡ 0) → bit (members_of x) k ≡ 0
    at d (yes z) = z
    at (yes h) (no n) =
        let t : member_of x k ≡ true =
        bit_member x k h (sym (bit_members x k h) ∙ bit_one (members_of x) k n) in
        let w : ◌≡◌ {A = ℕ} 0 1 = cc in
        absurd (omega arith)
    at (no g) (no n) = bit_past (members_of x) column_bound k (members_lt x) (omega arith)

pub bit_of_member : (x k : ℕ) → member_of x k ≡ true → bit (members_of x) k ≡ 1
bit_of_member x k m = let p = member_bit x k m in bit_members x k p.0 ∙ p.1

-- next: 'none' after the full set, and for a set with a member at or above n
pub next_full : (n x : ℕ) → full_of n ≡ Some (set_of x) → next_of n (members_of x) ≡ None
next_full n x e =
    let f = full_is n x e in
    let s : size_of x ≡ n = ap size_of f.1 ∙ ones-ones n in
    ap (next_of n) (members_own n x f.0 (omega (arith, ones_lt n)))
    ∙ next_of_last n x f.0 (omega (arith, ones_lt n)) (λ z h l t. omega arith) (omega arith)

pub next_above : (n x k : ℕ) → member_of x k ≡ true → n ≤ k → next_of n (members_of x) ≡ None
next_above n x k m l =
    next_absent n (members_of x) (omega (arith, (member_bit x k m).0))
    (omega (arith, bit_power_le (members_of x) k (bit_of_member x k m), pow_mono l))

-- precedes: fewer members, or as many and the lower number
pub precedes_members : (x y : ℕ) → precedes_of (members_of x) (members_of y)
    ≡ if_lt (member_count x) (member_count y) true
    (if_eq (member_count x) (member_count y) (ltb (members_of x) (members_of y)) false)
unfolding precedes_of
precedes_members x y =
    ap₂ (λ (s t : ℕ). if_lt s t true (if_eq s t (ltb (members_of x) (members_of y)) false)) (sym (size_members x))
    (sym (size_members y))

-- sets with the same members are answered alike
pub same_members_alike : (x y : ℕ) → ((k : ℕ) → member_of x k ≡ member_of y k) → Alike x y
same_members_alike x y e =
    let s = same_members x y e in
    record {
      member = e;
      size = size_members x ∙ ap size_of s ∙ sym (size_members y);
      without = λ k. ap (λ (z : ℕ). without_of z k) s;
      within = λ z. subset_within x z ∙ ap (λ (v : ℕ). within_of v (members_of z)) s ∙ sym (subset_within y z);
      around = λ z. subset_within z x ∙ ap (within_of (members_of z)) s ∙ sym (subset_within z y);
      before = λ z. ap (λ (v : ℕ). precedes_of v (members_of z)) s;
      behind = λ z. ap (precedes_of (members_of z)) s;
      next = λ n. ap (next_of n) s;
    }
