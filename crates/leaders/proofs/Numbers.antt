-- Rows told apart by one number each: the first row with the same number is a leader, and so the laws of leaders hold
-- of it.
use Prim.Native.Nat.{ℕ, ◌≤◌, ◌<◌}
use mathlib.Core.Path.{◌≡◌, sym, subst, ◌∙◌}
use mathlib.Core.Logic.{◌↔◌}
use mathlib.Core.Bool.{true}
use mathlib.Core.List.{List}
use native.Mathlib.Omega.{arith}
use lib.Dec.{eqb}
use lib.ListN.{get_or}
use Rattle.model.specs.View.{View, Equivalence, AgreeOn, agree_on}
use Rattle.model.proofs.Truth.{eqb_is, same_test}
use Rattle.model.proofs.View.{agree_on_is}
use Rattle.model.proofs.First.{first_from_same}
use Rattle.leaders.specs.Leaders.{leader_of}
use Rattle.leaders.specs.Keys.{first_same}
use Rattle.leaders.proofs.Leaders.{leader_is, leader_le, same_leader}
use Rattle.leaders.proofs.Keys.{numbers_equivalence, agree_on_one}

-- where rows agree exactly if their numbers are equal, the first row with the same number is the leader
pub first_same_leader : (v : View) (x : ℕ) (ws : List ℕ) (q : ℕ)
    → ((p : ℕ) → p < q → AgreeOn v x p q ↔ (get_or ws p 0 ≡ get_or ws q 0)) → first_same ws q ≡ leader_of v x q
unfolding first_same leader_of
first_same_leader v x ws q same =
    first_from_same (λ p. eqb (get_or ws p 0) (get_or ws q 0)) (λ p. agree_on v x p q) q 0
    (λ p l m.
    let equal = eqb_is (get_or ws p 0) (get_or ws q 0) in
    let agree = agree_on_is v x p q in
    let h = same p (omega arith) in
    same_test (eqb (get_or ws p 0) (get_or ws q 0)) (agree_on v x p q) (λ t. agree.1 (h.1 (equal.0 t)))
    (λ t. equal.1 (h.0 (agree.0 t))))

-- and so it is in the view of one member on which rows agree by their numbers
by_number : List ℕ → View
by_number ws =
    record {
      rows = 0;
      members = 1;
      agree = λ k p q. eqb (get_or ws p 0) (get_or ws q 0);
      present = λ k p. true;
    }

module _ (ws : List ℕ) where
  equivalence : Equivalence (by_number ws)
  unfolding by_number
  equivalence = numbers_equivalence (λ k p. get_or ws p 0) 1 0

  agreed : (p q : ℕ) → AgreeOn (by_number ws) 1 p q ↔ (get_or ws p 0 ≡ get_or ws q 0)
  unfolding by_number
  agreed p q =
      let one = agree_on_one (by_number ws) 0 p q (omega arith) in
      let equal = eqb_is (get_or ws p 0) (get_or ws q 0) in
      (λ h. equal.0 (one.0 h), λ e. one.1 (equal.1 e))

  leads : (q : ℕ) → first_same ws q ≡ leader_of (by_number ws) 1 q
  leads q = first_same_leader (by_number ws) 1 ws q (λ p l. agreed p q)

  pub first_same_le : (q : ℕ) → first_same ws q ≤ q
  first_same_le q = omega (arith, leads q, leader_le (by_number ws) 1 q)

  pub first_same_word : (q : ℕ) → get_or ws (first_same ws q) 0 ≡ get_or ws q 0
  first_same_word q =
      subst (λ (p : ℕ). get_or ws p 0 ≡ get_or ws q 0) (sym (leads q))
      ((agreed (leader_of (by_number ws) 1 q) q).0 (leader_is (by_number ws) equivalence 1 q).agrees)

  -- rows have the same number exactly if they have the same first
  pub same_first : (p q : ℕ) → (get_or ws p 0 ≡ get_or ws q 0) ↔ (first_same ws p ≡ first_same ws q)
  same_first p q =
      let same = same_leader (by_number ws) equivalence 1 p q in (
        λ e. leads p ∙ same.0 ((agreed p q).1 e) ∙ sym (leads q),
        λ e. (agreed p q).0 (same.1 (sym (leads p) ∙ e ∙ leads q)),
      )
