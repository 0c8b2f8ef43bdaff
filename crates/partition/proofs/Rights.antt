-- What a left side gives, by its leaders; and its minimal rights: those that it gives and that need each of its
-- members.
use Prim.Native.Nat.{ℕ, suc, ◌%◌, ◌^◌, ◌≤◌, ◌<◌}
use mathlib.Core.Path.{◌≡◌, sym, ap, subst, ◌∙◌}
use mathlib.Core.Logic.{◌↔◌}
use mathlib.Core.Bool.{Bool, true, false}
use mathlib.Core.List.{List}
use native.Mathlib.Nat.{mod-lt}
use native.Mathlib.Decide.{ℕ_discrete, dec_lt}
use native.Mathlib.Omega.{arith}
use borrow.Author.Tests.{ne_eqb}
use lib.Bits.{bit_or}
use lib.Dec.{T, eqb}
use lib.Pow.{pow_pos}
use Rattle.columns.specs.Bound.{column_bound}
use Rattle.columns.specs.Set.{bit, without_of}
use Rattle.columns.specs.Test.{pick}
use Rattle.columns.proofs.Bits.{bit_below, bit_past}
use Rattle.model.specs.Bounds.{row}
use Rattle.model.specs.View.{agree_right, holds, Minimal}
use Rattle.model.proofs.Truth.{is_true, true_is, false_is, eqb_is}
use Rattle.model.proofs.View.{agree_right_reflexive, holds_true, true_holds, minimal_is}
use Rattle.table.specs.Words.{lacking_of}
use Rattle.table.specs.Broken.{minimal_mask}
use Rattle.model.specs.Rights.{right_at}
use Rattle.table.proofs.Bits.{bit_with_same, bit_with_other, bit_lacking}
use Rattle.table.proofs.Table.{right_row, right_column, right_in, bit_zero_if, minimal_mask_lem}
use Rattle.leaders.specs.Leaders.{leader_of}
use Rattle.leaders.specs.Keys.{key_at, key_view}
use Rattle.leaders.proofs.Leaders.{leader_le, holds_by_leaders, key_by_leaders}
use Rattle.leaders.proofs.Keys.{key_equivalence}
use Rattle.partition.specs.Partition.{Led, Back, Gives, GivenBelow, Given, Needs}

-- no leader stands behind its row
pub led_back : (keys : List ℕ) (n end x : ℕ) (leaders : List ℕ) (r : Bool) → Led keys n end x leaders r → Back leaders end
led_back keys n end x leaders r led q l = omega (arith, led.leads q l, leader_le (key_view keys n end) x q)

module _ (keys : List ℕ) (n end x : ℕ) (leaders : List ℕ) (alone : Bool) (few : n ≤ column_bound)
    (led : Led keys n end x leaders alone) where
  -- the row
  pub alone_key : (alone ≡ true) ↔ (holds (key_view keys n end) x row ≡ true)
  alone_key =
      let k = key_by_leaders (key_view keys n end) (key_equivalence keys n end) x in (
        λ e. true_holds (key_view keys n end) x row (k.1 (led.alone.0 e)),
        λ h. led.alone.1 (k.0 (holds_true (key_view keys n end) x row h)),
      )

  -- a member
  module _ (a : ℕ) (l : a < n) where
    on_member : (p q : ℕ) → agree_right (key_view keys n end) a p q ≡ eqb (key_at keys a p) (key_at keys a q)
    on_member p q =
        ap (λ (t : Bool). pick t (eqb p q) (eqb (key_at keys a p) (key_at keys a q))) (ne_eqb a row (λ e. omega arith))

    pub gives_is : Gives keys leaders a end ↔ (holds (key_view keys n end) x a ≡ true)
    gives_is =
        let h = holds_by_leaders (key_view keys n end) (key_equivalence keys n end) x a in (
          λ g.
              true_holds (key_view keys n end) x a
              (h.1 (λ q m. subst T (sym (on_member (leader_of (key_view keys n end) x q) q))
              ((eqb_is (key_at keys a (leader_of (key_view keys n end) x q)) (key_at keys a q)).1
              (sym (ap (key_at keys a) (led.leads q m)) ∙ g q m)))),
          λ e q m.
              ap (key_at keys a) (led.leads q m)
              ∙ (eqb_is (key_at keys a (leader_of (key_view keys n end) x q)) (key_at keys a q)).0
              (subst T (on_member (leader_of (key_view keys n end) x q) q)
              (h.0 (holds_true (key_view keys n end) x a e) q m)),
        )

  -- where every row leads itself, the left side gives everything
  alone_gives : alone ≡ true → (a : ℕ) → holds (key_view keys n end) x a ≡ true
  alone_gives e a =
      true_holds (key_view keys n end) x a
      ((holds_by_leaders (key_view keys n end) (key_equivalence keys n end) x a).1
      (λ q l. subst (λ (p : ℕ). T (agree_right (key_view keys n end) a p q)) (sym (led.alone.0 e q l))
      (agree_right_reflexive (key_view keys n end) (key_equivalence keys n end) a q)))

  pub given_all : (wanted : ℕ) → alone ≡ true → Given keys n end x wanted (wanted % 2 ^ suc n)
  given_all wanted e a = at (dec_lt a (suc n))
    where
      at : Dec (a < suc n)
          → (bit (wanted % 2 ^ suc n) a ≡ 1)
          ↔ ((bit wanted a ≡ 1) × (a ≤ n) × (holds (key_view keys n end) x (right_at n a) ≡ true))
      at (yes l) =
          let b = bit_below wanted a (suc n) l in
          (λ i. (sym b ∙ i, omega arith, alone_gives e (right_at n a)), λ f. b ∙ f.0)
      at (no g) = (
        λ i. absurd
            (omega (arith, bit_past (wanted % 2 ^ suc n) (suc n) a (mod-lt wanted (pow_pos (suc n))) (omega arith))),
        λ f. absurd (omega (arith, f.1)),
      )

  pub given_some : (wanted r : ℕ) → alone ≡ false → GivenBelow keys leaders end wanted n r
      → Given keys n end x wanted r
  given_some wanted r other below a = (
    λ i.
        let f = (below.members a).0 i in
        let l = f.0 in
        (f.1, omega arith, ap (holds (key_view keys n end) x) (column l) ∙ (gives_is a l).0 f.2),
    λ f. at f (dec_lt a n),
  )
    where
      column : a < n → right_at n a ≡ a
      column l = right_column n a (λ e. omega arith)

      at : (bit wanted a ≡ 1) × (a ≤ n) × (holds (key_view keys n end) x (right_at n a) ≡ true) → Dec (a < n)
          → bit r a ≡ 1
      at f (yes l) =
          (below.members a).1 (l, f.0, (gives_is a l).1 (sym (ap (holds (key_view keys n end) x) (column l)) ∙ f.2))
      at f (no g) =
          let e : a ≡ n = omega (arith, f.1) in
          absurd (false_is other (true_is (alone_key.1 (sym (ap (holds (key_view keys n end) x) (right_row n a e)) ∙ f.2))))

-- the members given, one by one
module _ (keys leaders : List ℕ) (end wanted : ℕ) where
  module _ (a r : ℕ) (below : GivenBelow keys leaders end wanted a r) where
    pub below_added : (p : ℕ) → p ≡ 2 ^ a → bit wanted a ≡ 1 → Gives keys leaders a end
        → GivenBelow keys leaders end wanted (suc a) (bit_or r p)
    below_added p is w g = record {
      members = λ j.
          subst (λ (p : ℕ). (bit (bit_or r p) j ≡ 1) ↔ ((j < suc a) × (bit wanted j ≡ 1) × Gives keys leaders j end))
          (sym is)
          (at j (ℕ_discrete j a));
    }
      where
        at : (j : ℕ) → Dec (j ≡ a) → (bit (bit_or r (2 ^ a)) j ≡ 1)
            ↔ ((j < suc a) × (bit wanted j ≡ 1) × Gives keys leaders j end)
        at j (yes e) = (
          λ i. (
            omega arith,
            ap (bit wanted) e ∙ w,
            subst (λ (j : ℕ). Gives keys leaders j end) (sym e) g,
          ),
          λ f. ap (bit (bit_or r (2 ^ a))) e ∙ bit_with_same r a,
        )
        at j (no d) =
            let b = bit_with_other r j a d in (
              λ i. let f = (below.members j).0 (sym b ∙ i) in let l = f.0 in (omega arith, f.1, f.2),
              λ f. let l = f.0 in b ∙ (below.members j).1 (omega arith, f.1, f.2),
            )

    -- a member that is not given changes nothing
    pub below_kept : (Gives keys leaders a end → ⊥) → GivenBelow keys leaders end wanted (suc a) r
    below_kept n = record { members = λ j. at j (ℕ_discrete j a) }
      where
        at : (j : ℕ) → Dec (j ≡ a) → (bit r j ≡ 1) ↔ ((j < suc a) × (bit wanted j ≡ 1) × Gives keys leaders j end)
        at j (yes e) = (
          λ i. let l = ((below.members j).0 i).0 in absurd (omega arith),
          λ f. absurd (n (subst (λ (j : ℕ). Gives keys leaders j end) e f.2)),
        )
        at j (no d) = (
          λ i. let f = (below.members j).0 i in let l = f.0 in (omega arith, f.1, f.2),
          λ f. let l = f.0 in (below.members j).1 (omega arith, f.1, f.2),
        )

-- the rights of x that need each of its members are the minimal ones
module _ (keys : List ℕ) (n end x own : ℕ) (few : n ≤ column_bound) (small : x < 2 ^ n) (asked : own < 2 ^ suc n)
    (start r : ℕ)
    (given : Given keys n end x (lacking_of own x) start)
    (kept : (a : ℕ) → (bit r a ≡ 1) ↔ ((bit start a ≡ 1) × Needs keys n end x n a)) where
  needed_minimal : (a : ℕ) → a ≤ n → (bit r a ≡ 1) ↔ ((bit own a ≡ 1) × Minimal (key_view keys n end) x (right_at n a))
  needed_minimal a h = (
    λ e.
        let f = (kept a).0 e in
        let g = (given a).0 f.0 in
        let i = g.0 in
        let b = bit_lacking own x a in (
          omega arith,
          record {
            holds = holds_true (key_view keys n end) x (right_at n a) g.2;
            outside = λ o. omega (arith, (right_in n x a few small h).0 o);
            spare = λ k l o less. f.1 k l o (h, true_holds (key_view keys n end) (without_of x k) (right_at n a) less);
          },
        ),
    λ f.
        let m = f.1 in
        let i = f.0 in
        let z = bit_zero_if x a (λ o. m.outside ((right_in n x a few small h).1 o)) in
        let b = bit_lacking own x a in
        (kept a).1 (
          (given a).1 (omega arith, h, true_holds (key_view keys n end) x (right_at n a) m.holds),
          λ k l o s. m.spare k l o (holds_true (key_view keys n end) (without_of x k) (right_at n a) s.1),
        ),
  )

  pub needed_rights : r ≡ minimal_mask (key_view keys n end) own x
  needed_rights =
      minimal_mask_lem (key_view keys n end) x own r asked
      (λ a e. let i = ((given a).0 ((kept a).0 e).0).0 in omega (arith, bit_lacking own x a))
      (λ a h.
      let t = minimal_is (key_view keys n end) x (right_at n a) in (
        λ e. let f = (needed_minimal a h).0 e in (f.0, is_true (t.1 f.1)),
        λ f. (needed_minimal a h).1 (f.0, t.0 (true_is f.1)),
      ))
