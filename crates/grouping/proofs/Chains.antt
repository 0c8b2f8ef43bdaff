-- Laws of chains: the last leader of a chain, the walk along it that finds a row's leader, and a row put at its head.
use Prim.Native.Nat.{ℕ, ◌+◌, ◌-◌, ◌≤◌, ◌<◌}
use mathlib.Core.Path.{◌≡◌, sym, ap, subst, ◌∙◌}
use mathlib.Core.List.{List}
use native.Mathlib.Decide.{ℕ_discrete, dec_lt}
use native.Mathlib.Omega.{arith}
use lib.ListN.{get_or, set, replicate, length-set, length-replicate, get_or-replicate}
use lib.Seq.{get_or-set_same, get_or-set_other}
use Rattle.model.specs.Bounds.{row_bound}
use Rattle.leaders.specs.Keys.{first_same}
use Rattle.leaders.proofs.Numbers.{first_same_le, first_same_word, same_first}
use Rattle.grouping.specs.Chains.{chains, chain_of, LeadsIn, LastIn, LinkedBelow, Chained}

-- the walk along the chain of row q stands at c: a leader of that chain, and no leader from there on to q has the
-- word of q
pub record Walking (ws links : List ℕ) (q c : ℕ) : Type 0 where
  pub linked : LinkedBelow ws q links
  pub high : c ≤ q
  pub leads : 0 < c → LeadsIn ws (chain_of (get_or ws q 0)) (c - 1)
  pub passed : (p : ℕ) → c ≤ p → p < q → first_same ws p ≡ p → get_or ws p 0 ≡ get_or ws q 0 → ⊥

module _ (ws links : List ℕ) (q c : ℕ) where
  pub walking_begun : LinkedBelow ws q links → LastIn ws q (chain_of (get_or ws q 0)) c → Walking ws links q c
  walking_begun k l = record {
    linked = k;
    high = l.high;
    leads = l.leads;
    passed = λ p i j f e. l.last p i j (record { leads = f; chain = ap chain_of e });
  }

  -- the next place is below
  pub walking_link : Walking ws links q c → 0 < c → LastIn ws (c - 1) (chain_of (get_or ws q 0)) (get_or links (c - 1) 0)
  walking_link w s =
      let n = w.leads s in
      subst (λ (h : ℕ). LastIn ws (c - 1) h (get_or links (c - 1) 0)) n.chain
      (w.linked.link (c - 1) (omega (arith, w.high)) n.leads)

  pub walking_more : Walking ws links q c → 0 < c → (get_or ws (c - 1) 0 ≡ get_or ws q 0 → ⊥)
      → Walking ws links q (get_or links (c - 1) 0)
  walking_more w s other = record {
    linked = w.linked;
    high = omega (arith, w.high, next.high);
    leads = next.leads;
    passed = λ p i j f e. at p i j f e (dec_lt p (c - 1)) (ℕ_discrete p (c - 1));
  }
    where
      next : LastIn ws (c - 1) (chain_of (get_or ws q 0)) (get_or links (c - 1) 0)
      next = walking_link w s

      at : (p : ℕ) → get_or links (c - 1) 0 ≤ p → p < q → first_same ws p ≡ p → get_or ws p 0 ≡ get_or ws q 0
          → Dec (p < c - 1) → Dec (p ≡ c - 1) → ⊥
      at p i j f e (yes k) m = next.last p i k (record { leads = f; chain = ap chain_of e })
      at p i j f e (no k) (yes m) = other (subst (λ (r : ℕ). get_or ws r 0 ≡ get_or ws q 0) m e)
      at p i j f e (no k) (no m) = w.passed p (omega arith) j f e

  -- the leader is found, or there is none before q
  pub walking_found : Walking ws links q c → 0 < c → get_or ws (c - 1) 0 ≡ get_or ws q 0 → c - 1 ≡ first_same ws q
  walking_found w s e = sym (w.leads s).leads ∙ (same_first ws (c - 1) q).0 e

  pub walking_done : Walking ws links q c → c ≡ 0 → q ≡ first_same ws q
  walking_done w e = at (dec_lt first q)
    where
      first : ℕ
      first = first_same ws q

      at : Dec (first < q) → q ≡ first
      at (yes l) =
          absurd (w.passed first (omega arith) l ((same_first ws first q).0 (first_same_word ws q))
          (first_same_word ws q))
      at (no n) = omega (arith, first_same_le ws q)

-- no row is chained yet, the next row leads itself, or it does not
pub chained_begun : (ws : List ℕ) → Chained ws 0 (replicate chains 0) (replicate row_bound 0)
chained_begun ws = record {
  chains_long = length-replicate {A = ℕ} chains 0;
  links_long = length-replicate {A = ℕ} row_bound 0;
  headed = λ h l. subst (LastIn ws 0 h) (sym (get_or-replicate chains h 0 0 l)) (record {
    high = omega arith;
    leads = λ s. absurd (omega arith);
    last = λ p i j. absurd (omega arith);
  });
  linked = record { link = λ p l. absurd (omega arith) };
}

-- the head of the chain of a row
pub chained_head : {ws : List ℕ} {q : ℕ} {heads links : List ℕ} → Chained ws q heads links → {h : ℕ}
    → (h ≡ chain_of (get_or ws q 0)) × (h < chains) → LastIn ws q (chain_of (get_or ws q 0)) (get_or heads h 0)
chained_head {ws} {q} {heads} k {h} i = subst (λ (j : ℕ). LastIn ws q j (get_or heads h 0)) i.0 (k.headed h i.1)

-- a chain that the next row is not put into stays
last_same : (ws : List ℕ) (m h c : ℕ) → (LeadsIn ws h m → ⊥) → LastIn ws m h c → LastIn ws (m + 1) h c
last_same ws m h c other l = record {
  high = omega (arith, l.high);
  leads = l.leads;
  last = λ p i j n. at p i j n (ℕ_discrete p m);
}
  where
    at : (p : ℕ) → c ≤ p → p < m + 1 → LeadsIn ws h p → Dec (p ≡ m) → ⊥
    at p i j n (yes e) = other (subst (LeadsIn ws h) e n)
    at p i j n (no d) = l.last p i (omega arith) n

pub chained_follower : (ws : List ℕ) (m : ℕ) (heads links : List ℕ) → (first_same ws m ≡ m → ⊥)
    → Chained ws m heads links → Chained ws (m + 1) heads links
chained_follower ws m heads links other k = record {
  chains_long = k.chains_long;
  links_long = k.links_long;
  headed = λ h l. last_same ws m h (get_or heads h 0) (λ n. other n.leads) (k.headed h l);
  linked = record { link = λ p l f. k.linked.link p (below p l f (ℕ_discrete p m)) f };
}
  where
    below : (p : ℕ) → p < m + 1 → first_same ws p ≡ p → Dec (p ≡ m) → p < m
    below p l f (yes e) = absurd (other (subst (λ (r : ℕ). first_same ws r ≡ r) e f))
    below p l f (no d) = omega arith

pub chained_leader : (ws : List ℕ) (m h : ℕ) (heads links : List ℕ) → m < row_bound → (h ≡ chain_of (get_or ws m 0))
    × (h < chains) → first_same ws m ≡ m → Chained ws m heads links
    → Chained ws (m + 1) (set heads h (m + 1)) (set links m (get_or heads h 0))
chained_leader ws m h heads links l is leads k = record {
  chains_long = length-set heads h (m + 1) ∙ k.chains_long;
  links_long = length-set links m (get_or heads h 0) ∙ k.links_long;
  headed = λ j i. head j i (ℕ_discrete j h);
  linked = record { link = λ p i f. link p i f (ℕ_discrete p m) };
}
  where
    head : (j : ℕ) → j < chains → Dec (j ≡ h) → LastIn ws (m + 1) j (get_or (set heads h (m + 1)) j 0)
    head j i (yes e) =
        subst (λ (i : ℕ). LastIn ws (m + 1) i (get_or (set heads h (m + 1)) i 0)) (sym e)
        (subst (LastIn ws (m + 1) h) (sym (get_or-set_same heads h (m + 1) 0 (omega (arith, k.chains_long, is.1))))
        (record {
          high = omega arith;
          leads = λ s. let e : m ≡ m + 1 - 1 =
              omega arith in subst (LeadsIn ws h) e (record { leads = leads; chain = sym is.0 });
          last = λ p i j. absurd (omega arith);
        }))
    head j i (no d) =
        subst (LastIn ws (m + 1) j) (sym (get_or-set_other heads h j (m + 1) 0 d))
        (last_same ws m j (get_or heads j 0) (λ n. d (sym n.chain ∙ sym is.0)) (k.headed j i))

    link : (p : ℕ) → p < m + 1 → first_same ws p ≡ p → Dec (p ≡ m)
        → LastIn ws p (chain_of (get_or ws p 0)) (get_or (set links m (get_or heads h 0)) p 0)
    link p i f (yes e) =
        subst (λ (r : ℕ). LastIn ws r (chain_of (get_or ws r 0)) (get_or (set links m (get_or heads h 0)) r 0)) (sym e)
        (subst (LastIn ws m (chain_of (get_or ws m 0)))
        (sym (get_or-set_same links m (get_or heads h 0) 0 (omega (arith, k.links_long))))
        (chained_head k is))
    link p i f (no d) =
        subst (LastIn ws p (chain_of (get_or ws p 0))) (sym (get_or-set_other links m p (get_or heads h 0) 0 d))
        (k.linked.link p (omega arith) f)
