-- What leaders tell, over any view in which agreement is an equivalence: which rows agree, what holds, what is a key,
-- and which two rows are the first to break a dependency.
use Prim.Native.Nat.{ℕ, ◌≤◌, ◌<◌}
use mathlib.Core.Path.{◌≡◌, sym, subst}
use mathlib.Core.Logic.{◌⊎◌, inl, inr, ◌↔◌}
use native.Mathlib.Decide.{ℕ_discrete, dec_lt}
use native.Mathlib.Omega.{arith}
use lib.Dec.{T}
use Rattle.model.specs.Bounds.{row}
use Rattle.model.specs.First.{first_from}
use Rattle.model.specs.Pair.{FirstPair}
use Rattle.model.specs.View.{View, Equivalence, AgreeOn, agree_on, agree_right, Holds, Key, Breaks}
use Rattle.model.proofs.Truth.{decided, eqb_is}
use Rattle.model.proofs.First.{FirstThat, first_from_is}
use Rattle.model.proofs.View.{agree_on_is, agree_on_reflexive, agree_on_symmetric, agree_on_transitive}
use Rattle.model.proofs.View.{agree_right_reflexive, agree_right_symmetric, agree_right_transitive}
use Rattle.leaders.specs.Leaders.{leader_of, Leader, Strays, AllLead}

pub leader_le : (v : View) (x q : ℕ) → leader_of v x q ≤ q
unfolding leader_of
leader_le v x q = let f = first_from_is (λ p. agree_on v x p q) q 0 in omega (arith, f.high)

module _ (v : View) (eq : Equivalence v) where
  pub leader_is : (x q : ℕ) → Leader v x q (leader_of v x q)
  unfolding leader_of
  leader_is x q = record {
    reached = leader_le v x q;
    agrees = at (dec_lt leader q);
    lowest = λ r l h. first.lowest r (omega arith) l ((agree_on_is v x r q).1 h);
  }
    where
      leader : ℕ
      leader = first_from (λ p. agree_on v x p q) q 0

      first : FirstThat (λ p. agree_on v x p q) q 0 leader
      first = first_from_is (λ p. agree_on v x p q) q 0

      at : Dec (leader < q) → AgreeOn v x leader q
      at (yes l) = (agree_on_is v x leader q).0 (first.passes (omega arith))
      at (no n) =
          let e : q ≡ leader = omega (arith, first.high) in
          subst (λ (p : ℕ). AgreeOn v x p q) e (agree_on_reflexive v eq x q)

  -- no row that agrees with a row is below its leader
  pub leader_least : (x q r : ℕ) → AgreeOn v x r q → leader_of v x q ≤ r
  leader_least x q r h = at (dec_lt r (leader_of v x q))
    where
      at : Dec (r < leader_of v x q) → leader_of v x q ≤ r
      at (yes l) = absurd ((leader_is x q).lowest r l h)
      at (no n) = omega arith

  pub leader_unique : (x q p : ℕ) → Leader v x q p → p ≡ leader_of v x q
  leader_unique x q p h = at (dec_lt (leader_of v x q) p)
    where
      at : Dec (leader_of v x q < p) → p ≡ leader_of v x q
      at (yes l) = absurd (h.lowest (leader_of v x q) l (leader_is x q).agrees)
      at (no n) = omega (arith, leader_least x q p h.agrees)

  -- rows agree exactly if they have the same leader
  same_leader_le : (x p q : ℕ) → AgreeOn v x p q → leader_of v x q ≤ leader_of v x p
  same_leader_le x p q h =
      leader_least x q (leader_of v x p) (agree_on_transitive v eq x (leader_of v x p) p q (leader_is x p).agrees h)

  pub same_leader : (x p q : ℕ) → AgreeOn v x p q ↔ (leader_of v x p ≡ leader_of v x q)
  same_leader x p q = (
    λ h. omega (arith, same_leader_le x p q h, same_leader_le x q p (agree_on_symmetric v eq x p q h)),
    λ e.
        agree_on_transitive v eq x p (leader_of v x p) q
        (agree_on_symmetric v eq x (leader_of v x p) p (leader_is x p).agrees)
        (subst (λ (r : ℕ). AgreeOn v x r q) (sym e) (leader_is x q).agrees),
  )

  -- what holds, and what is a key
  agree_right_join : (a l p q : ℕ) → T (agree_right v a l p) → T (agree_right v a l q) → T (agree_right v a p q)
  agree_right_join a l p q h g = agree_right_transitive v eq a p l q (agree_right_symmetric v eq a l p h) g

  pub holds_by_leaders : (x a : ℕ) → Holds v x a ↔ ((q : ℕ) → q < v.rows → T (agree_right v a (leader_of v x q) q))
  holds_by_leaders x a = (
    λ h q l. h (leader_of v x q) q (omega (arith, leader_le v x q)) l (leader_is x q).agrees,
    λ h p q l m agree.
        agree_right_join a (leader_of v x q) p q
        (subst (λ (r : ℕ). T (agree_right v a r p)) ((same_leader x p q).0 agree) (h p l)) (h q m),
  )

  pub key_by_leaders : (x : ℕ) → Key v x ↔ AllLead v x
  key_by_leaders x = (
    λ h q l. (eqb_is (leader_of v x q) q).0 ((holds_by_leaders x row).0 h q l),
    λ h. (holds_by_leaders x row).1 (λ q l. (eqb_is (leader_of v x q) q).1 (h q l)),
  )

  -- a row that strays does not lead itself, and breaks the dependency with its leader
  pub strays_breaks : (x a q : ℕ) → Strays v x a q → Breaks v x a (leader_of v x q) q
  strays_breaks x a q s = record {
    lower = at (ℕ_discrete (leader_of v x q) q);
    exists = s.exists;
    left = (leader_is x q).agrees;
    right = s.apart;
  }
    where
      at : Dec (leader_of v x q ≡ q) → leader_of v x q < q
      at (yes e) = absurd (s.apart (subst (λ (r : ℕ). T (agree_right v a r q)) (sym e) (agree_right_reflexive v eq a q)))
      at (no n) = omega (arith, leader_le v x q)

  -- of two rows that break a dependency one strays, and their leader is not above the lower
  pub breaks_strays : (x a p q : ℕ) → Breaks v x a p q → (r : ℕ) × (r ≤ q) × (leader_of v x r ≤ p) × Strays v x a r
  breaks_strays x a p q b = at (decided (agree_right v a (leader_of v x p) p))
    where
      same : leader_of v x p ≡ leader_of v x q
      same = (same_leader x p q).0 b.left

      at : T (agree_right v a (leader_of v x p) p) ⊎ (T (agree_right v a (leader_of v x p) p) → ⊥)
          → (r : ℕ) × (r ≤ q) × (leader_of v x r ≤ p) × Strays v x a r
      at (inl t) = (
        q,
        omega arith,
        omega (arith, same, leader_le v x p),
        record {
          exists = b.exists;
          apart =
              λ u. b.right (agree_right_join a (leader_of v x q) p q (subst (λ (r : ℕ). T (agree_right v a r p)) same t)
              u);
        },
      )
      at (inr n) = (
        p,
        omega (arith, b.lower),
        leader_le v x p,
        record { exists = omega (arith, b.lower, b.exists); apart = n },
      )

  pub no_stray_holds : (x a : ℕ) → ((q : ℕ) → Strays v x a q → ⊥) → (p q : ℕ) → Breaks v x a p q → ⊥
  no_stray_holds x a none p q b = let r = breaks_strays x a p q b in none r.0 r.3

  -- the first breaking pair: the lowest leader that a row strays from, and the lowest such row
  pub first_pair_lem : (x a p q : ℕ) → Strays v x a q → p ≡ leader_of v x q
      → ((r : ℕ) → leader_of v x r < p → Strays v x a r → ⊥)
      → ((r : ℕ) → r < q → leader_of v x r ≡ p → Strays v x a r → ⊥)
      → FirstPair v x a p q
  first_pair_lem x a p q s e lower earlier =
      record {
        breaking = subst (λ (r : ℕ). Breaks v x a r q) (sym e) (strays_breaks x a q s);
        lowest_first = λ m n b l. let r = breaks_strays x a m n b in lower r.0 (omega (arith, r.2)) r.3;
        lowest_second = λ n b l.
            let r = breaks_strays x a p n b in
            at r.0 (omega (arith, r.1)) r.2 r.3 (dec_lt (leader_of v x r.0) p);
      }
    where
      at : (r : ℕ) → r < q → leader_of v x r ≤ p → Strays v x a r → Dec (leader_of v x r < p) → ⊥
      at r k l t (yes i) = lower r i t
      at r k l t (no i) = earlier r k (omega arith) t
