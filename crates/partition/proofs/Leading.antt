-- Leaders on a left side, member by member: by no member row 0 leads all, a member more is joined by one number a
-- row, and once every row leads itself it does so by any more members.
use Prim.Native.Nat.{ℕ, suc, ◌≤◌, ◌<◌}
use mathlib.Core.Path.{◌≡◌, refl, sym, ap₂, subst, ◌∙◌}
use mathlib.Core.Logic.{◌↔◌}
use mathlib.Core.Bool.{Bool, true}
use mathlib.Core.List.{List}
use native.Mathlib.Decide.{ℕ_discrete, dec_lt}
use native.Mathlib.Omega.{arith}
use borrow.Author.Tests.{leb-true, le-leb}
use lib.Dec.{T, eqb, leb}
use lib.ListN.{get_or, length}
use Rattle.columns.specs.Set.{bit}
use Rattle.model.specs.Bounds.{row_bound}
use Rattle.model.specs.View.{In, AgreeOn}
use Rattle.model.proofs.Truth.{eqb_is}
use Rattle.model.proofs.View.{agree_on_reflexive}
use Rattle.grouping.specs.Grouped.{Grouped}
use Rattle.leaders.specs.Leaders.{leader_of, AllLead}
use Rattle.leaders.specs.Keys.{key_at, key_view, first_same}
use Rattle.leaders.proofs.Leaders.{leader_is, leader_unique, same_leader}
use Rattle.leaders.proofs.Keys.{key_equivalence}
use Rattle.leaders.proofs.Numbers.{first_same_leader}
use Rattle.partition.specs.Partition.{key_bound, leader_word, Led}

-- two numbers a row as one: equal exactly if both are
word_same : (l k m j : ℕ) → k < key_bound → j < key_bound → (leader_word l k ≡ leader_word m j) ↔ ((l ≡ m) × (k ≡ j))
word_same l k m j hk hj = (λ e. at e (dec_lt l m) (dec_lt m l), λ h. ap₂ leader_word h.0 h.1)
  where
    at : leader_word l k ≡ leader_word m j → Dec (l < m) → Dec (m < l) → (l ≡ m) × (k ≡ j)
    at e (yes a) b = absurd (omega arith)
    at e (no a) (yes b) = absurd (omega arith)
    at e (no a) (no b) = let s : l ≡ m = omega arith in (s, omega arith)

module _ (keys : List ℕ) (end x : ℕ) where
  -- rows agree by one member more if they agree by those before, and on that member if the left side has it
  agree_more : (k p q : ℕ)
      → AgreeOn (key_view keys (suc k) end) x p q
      ↔ (AgreeOn (key_view keys k end) x p q × (In k x → key_at keys k p ≡ key_at keys k q))
  agree_more k p q = (
    λ h. (λ j l i. h j (omega arith) i, λ i. (eqb_is (key_at keys k p) (key_at keys k q)).0 (h k (omega arith) i)),
    λ h j l i. at h j l i (ℕ_discrete j k),
  )
    where
      at : AgreeOn (key_view keys k end) x p q × (In k x → key_at keys k p ≡ key_at keys k q) → (j : ℕ) → j < suc k
          → In j x → Dec (j ≡ k) → T (eqb (key_at keys j p) (key_at keys j q))
      at h j l i (yes e) =
          subst (λ (j : ℕ). T (eqb (key_at keys j p) (key_at keys j q))) (sym e)
          ((eqb_is (key_at keys k p) (key_at keys k q)).1 (h.1 (subst (λ (j : ℕ). In j x) e i)))
      at h j l i (no n) = h.0 j (omega arith) i

  -- by no member row 0 leads all
  first_leads : (q : ℕ) → leader_of (key_view keys 0 end) x q ≡ 0
  first_leads q =
      sym (leader_unique (key_view keys 0 end) (key_equivalence keys 0 end) x q 0 (record {
        reached = omega arith;
        agrees = λ k l i. absurd (omega arith);
        lowest = λ r l h. omega arith;
      }))

  pub led_begun : (leaders : List ℕ) → length leaders ≡ row_bound
      → ((q : ℕ) → q < end → get_or leaders q 0 ≡ 0) → Led keys 0 end x leaders (leb end 1)
  led_begun leaders long zeros = record {
    long = long;
    leads = λ q l. zeros q l ∙ sym (first_leads q);
    alone = (λ e q l. omega (arith, leb-true end 1 e, first_leads q), λ f. le-leb end 1 (few f (dec_lt 1 end)));
  }
    where
      few : AllLead (key_view keys 0 end) x → Dec (1 < end) → end ≤ 1
      few f (yes l) = absurd (omega (arith, f 1 l, first_leads 1))
      few f (no n) = omega arith

  module _ (k : ℕ) (leaders : List ℕ) (s : Bool) (led : Led keys k end x leaders s) where
    -- a member that the left side does not have changes nothing
    pub led_skipped : (bit x k ≡ 1 → ⊥) → Led keys (suc k) end x leaders s
    led_skipped n = record {
      long = led.long;
      leads = λ q l. led.leads q l ∙ same q;
      alone = (λ e q l. sym (same q) ∙ led.alone.0 e q l, λ f. led.alone.1 (λ q l. same q ∙ f q l));
    }
      where
        same : (q : ℕ) → leader_of (key_view keys k end) x q ≡ leader_of (key_view keys (suc k) end) x q
        same q =
            let leader = leader_is (key_view keys k end) (key_equivalence keys k end) x q in
            leader_unique (key_view keys (suc k) end) (key_equivalence keys (suc k) end) x q
            (leader_of (key_view keys k end) x q)
            (record {
              reached = leader.reached;
              agrees = (agree_more k (leader_of (key_view keys k end) x q) q).1 (leader.agrees, λ i. absurd (n i));
              lowest = λ r l h. leader.lowest r l ((agree_more k r q).0 h).0;
            })

    -- one that it has is joined
    pub led_joined : (ws after : List ℕ) (r : Bool) → In k x
        → ((q : ℕ) → q < end → (key_at keys k q < key_bound)
        × (get_or ws q 0 ≡ leader_word (get_or leaders q 0) (key_at keys k q)))
        → Grouped ws end after r → Led keys (suc k) end x after r
    led_joined ws after r i words g = record {
      long = g.long;
      leads = λ q l. g.leaders q l ∙ same q l;
      alone = (λ e q l. sym (same q l) ∙ g.alone.0 e q l, λ f. g.alone.1 (λ q l. same q l ∙ f q l));
    }
      where
        agree : (p q : ℕ) → p < end → q < end
            → AgreeOn (key_view keys (suc k) end) x p q ↔ (get_or ws p 0 ≡ get_or ws q 0)
        agree p q lp lq =
            let wp = words p lp in
            let wq = words q lq in
            let w = word_same (get_or leaders p 0) (key_at keys k p) (get_or leaders q 0) (key_at keys k q) wp.0 wq.0 in
            let t = same_leader (key_view keys k end) (key_equivalence keys k end) x p q in (
              λ h.
                  let u = (agree_more k p q).0 h in
                  wp.1 ∙ w.1 (led.leads p lp ∙ t.0 u.0 ∙ sym (led.leads q lq), u.1 i) ∙ sym wq.1,
              λ e.
                  let u = w.0 (sym wp.1 ∙ e ∙ wq.1) in
                  (agree_more k p q).1 (t.1 (sym (led.leads p lp) ∙ u.0 ∙ led.leads q lq), λ j. u.1),
            )

        same : (q : ℕ) → q < end → first_same ws q ≡ leader_of (key_view keys (suc k) end) x q
        same q lq = first_same_leader (key_view keys (suc k) end) x ws q (λ p l. agree p q (omega arith) lq)

    -- once every row leads itself, it does so by more members
    pub led_ended : (n : ℕ) → k ≤ n → s ≡ true → Led keys n end x leaders true
    led_ended n h z = record {
      long = led.long;
      leads = λ q l. led.leads q l ∙ alone q l ∙ sym (still q l);
      alone = (λ e q l. still q l, λ f. refl);
    }
      where
        alone : AllLead (key_view keys k end) x
        alone = led.alone.0 z

        still : AllLead (key_view keys n end) x
        still q l =
            sym (leader_unique (key_view keys n end) (key_equivalence keys n end) x q q (record {
              reached = omega arith;
              agrees = agree_on_reflexive (key_view keys n end) (key_equivalence keys n end) x q;
              lowest = λ r m a.
                  (leader_is (key_view keys k end) (key_equivalence keys k end) x q).lowest r (omega (arith, alone q l))
                  (λ j o i. a j (omega arith) i);
            }))
