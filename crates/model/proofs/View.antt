-- Agreement, dependency, key and minimal: the tests of specs/View.antt say what the propositions say, and the laws
-- that every engine over them needs. For any view; some ask that agreement is an equivalence.
use Prim.Native.Nat.{ℕ, ◌<◌}
use mathlib.Core.Path.{◌≡◌, refl, sym, subst, ◌∙◌}
use mathlib.Core.Logic.{◌⊎◌, inl, inr, ◌↔◌}
use mathlib.Core.Bool.{Bool, true, false, not, ◌&&◌, ◌||◌}
use native.Mathlib.Decide.{ℕ_discrete, dec_lt}
use native.Mathlib.Omega.{arith}
use lib.Dec.{T, eqb, ltb, ltb→lt, lt→ltb}
use Rattle.columns.specs.Set.{bit, without_of}
use Rattle.columns.specs.Test.{pick}
use Rattle.columns.proofs.Bits.{bit_without_same, bit_without_other}
use Rattle.model.specs.Bounds.{row}
use Rattle.model.specs.View.{View, Equivalence, In, is_in, Within, AgreeOn, agree_on, agree_right, Holds, holds}
use Rattle.model.specs.View.{Breaks, breaks, Minimal, Least, minimal, all_below}
use Rattle.model.proofs.Truth.{is_true, true_is, is_false, false_is, decided, and_is, or_is, not_is, implies_is}
use Rattle.model.proofs.Truth.{eqb_is, all_below_is, one_fails}

-- the tests say what the propositions say
pub is_in_is : (k x : ℕ) → T (is_in k x) ↔ In k x
is_in_is k x = eqb_is (bit x k) 1

pub agree_on_is : (v : View) (x p q : ℕ) → T (agree_on v x p q) ↔ AgreeOn v x p q
unfolding agree_on
agree_on_is v x p q = (
  λ t k l i. (implies_is (is_in k x) (v.agree k p q)).0 ((all_below_is v.members test).0 t k l) ((is_in_is k x).1 i),
  λ h. (all_below_is v.members test).1
      (λ k l. (implies_is (is_in k x) (v.agree k p q)).1 (λ i. h k l ((is_in_is k x).0 i))),
)
  where
    test : ℕ → Bool
    test k = not (is_in k x) || v.agree k p q

pub holds_is : (v : View) (x a : ℕ) → T (holds v x a) ↔ Holds v x a
unfolding holds
holds_is v x a = (
  λ t p q lp lq agree.
      (implies_is (agree_on v x p q) (agree_right v a p q)).0
      ((all_below_is v.rows (test p)).0 ((all_below_is v.rows (λ r. all_below v.rows (test r))).0 t p lp) q lq)
      ((agree_on_is v x p q).1 agree),
  λ h. (all_below_is v.rows (λ r. all_below v.rows (test r))).1
      (λ p lp. (all_below_is v.rows (test p)).1
      (λ q lq. (implies_is (agree_on v x p q) (agree_right v a p q)).1
      (λ agree. h p q lp lq ((agree_on_is v x p q).0 agree)))),
)
  where
    test : ℕ → ℕ → Bool
    test p q = not (agree_on v x p q) || agree_right v a p q

pub breaks_is : (v : View) (x a p q : ℕ) → T (breaks v x a p q) ↔ Breaks v x a p q
unfolding breaks
breaks_is v x a p q = (
  λ t.
      let l = (and_is (ltb p q) (ltb q v.rows && sides)).0 t in
      let e = (and_is (ltb q v.rows) sides).0 l.1 in
      let h = (and_is (agree_on v x p q) (not (agree_right v a p q))).0 e.1 in
      record {
        lower = ltb→lt p q l.0;
        exists = ltb→lt q v.rows e.0;
        left = (agree_on_is v x p q).0 h.0;
        right = (not_is (agree_right v a p q)).0 h.1;
      },
  λ b. (and_is (ltb p q) (ltb q v.rows && sides)).1 (
    lt→ltb p q b.lower,
    (and_is (ltb q v.rows) sides).1 (
      lt→ltb q v.rows b.exists,
      (and_is (agree_on v x p q) (not (agree_right v a p q))).1 (
        (agree_on_is v x p q).1 b.left,
        (not_is (agree_right v a p q)).1 b.right,
      ),
    ),
  ),
)
  where
    sides : Bool
    sides = agree_on v x p q && not (agree_right v a p q)

pub minimal_is : (v : View) (x a : ℕ) → T (minimal v x a) ↔ Minimal v x a
unfolding minimal
minimal_is v x a = (
  λ t.
      let h = (and_is (holds v x a) (not (is_in a x) && spares)).0 t in
      let r = (and_is (not (is_in a x)) spares).0 h.1 in
      record {
        holds = (holds_is v x a).0 h.0;
        outside = λ i. (not_is (is_in a x)).0 r.0 ((is_in_is a x).1 i);
        spare = λ k l i less.
            (not_is (holds v (without_of x k) a)).0
            ((implies_is (is_in k x) (not (holds v (without_of x k) a))).0 ((all_below_is v.members test).0 r.1 k l)
            ((is_in_is k x).1 i))
            ((holds_is v (without_of x k) a).1 less);
      },
  λ m. (and_is (holds v x a) (not (is_in a x) && spares)).1 (
    (holds_is v x a).1 m.holds,
    (and_is (not (is_in a x)) spares).1 (
      (not_is (is_in a x)).1 (λ i. m.outside ((is_in_is a x).0 i)),
      (all_below_is v.members test).1
          (λ k l. (implies_is (is_in k x) (not (holds v (without_of x k) a))).1
          (λ i. (not_is (holds v (without_of x k) a)).1
          (λ less. m.spare k l ((is_in_is k x).0 i) ((holds_is v (without_of x k) a).0 less)))),
    ),
  ),
)
  where
    test : ℕ → Bool
    test k = not (is_in k x) || not (holds v (without_of x k) a)

    spares : Bool
    spares = all_below v.members test

-- the same as equations
pub holds_true : (v : View) (x a : ℕ) → holds v x a ≡ true → Holds v x a
holds_true v x a e = (holds_is v x a).0 (true_is e)

pub true_holds : (v : View) (x a : ℕ) → Holds v x a → holds v x a ≡ true
true_holds v x a h = is_true ((holds_is v x a).1 h)

pub holds_false : (v : View) (x a : ℕ) → holds v x a ≡ false → Holds v x a → ⊥
holds_false v x a e h = false_is e ((holds_is v x a).1 h)

pub false_holds : (v : View) (x a : ℕ) → (Holds v x a → ⊥) → holds v x a ≡ false
false_holds v x a n = is_false (λ t. n ((holds_is v x a).0 t))

-- a failed test has two rows, in some order, that agree on the left and disagree on the right
pub record Apart (v : View) (x a p q : ℕ) : Type 0 where
  pub one : p < v.rows
  pub other : q < v.rows
  pub left : AgreeOn v x p q
  pub right : T (agree_right v a p q) → ⊥

pub holds_false_apart : (v : View) (x a : ℕ) → holds v x a ≡ false → (p : ℕ) × (q : ℕ) × Apart v x a p q
unfolding holds
holds_false_apart v x a e =
    let r = one_fails v.rows (λ p. all_below v.rows (test p)) (false_is e) in
    let s = one_fails v.rows (test r.0) r.2 in (
      r.0,
      s.0,
      record {
        one = r.1;
        other = s.1;
        left = agreed r.0 s.0 s.2 (decided (agree_on v x r.0 s.0));
        right = λ t. s.2 ((or_is (not (agree_on v x r.0 s.0)) (agree_right v a r.0 s.0)).1 (inr t));
      },
    )
  where
    test : ℕ → ℕ → Bool
    test p q = not (agree_on v x p q) || agree_right v a p q

    agreed : (p q : ℕ) → (T (test p q) → ⊥) → T (agree_on v x p q) ⊎ (T (agree_on v x p q) → ⊥) → AgreeOn v x p q
    agreed p q fails (inl t) = (agree_on_is v x p q).0 t
    agreed p q fails (inr n) = absurd (fails ((implies_is (agree_on v x p q) (agree_right v a p q)).1 (λ t. absurd (n t))))

-- agreement on a left side and on a right side, where agreement on a member is an equivalence
module _ (v : View) (eq : Equivalence v) where
  pub agree_on_reflexive : (x p : ℕ) → AgreeOn v x p p
  agree_on_reflexive x p k l i = eq.reflexive k p

  pub agree_on_symmetric : (x p q : ℕ) → AgreeOn v x p q → AgreeOn v x q p
  agree_on_symmetric x p q h k l i = eq.symmetric k p q (h k l i)

  pub agree_on_transitive : (x p q r : ℕ) → AgreeOn v x p q → AgreeOn v x q r → AgreeOn v x p r
  agree_on_transitive x p q r h g k l i = eq.transitive k p q r (h k l i) (g k l i)

  pub agree_right_reflexive : (a p : ℕ) → T (agree_right v a p p)
  agree_right_reflexive a p = at (eqb a row)
    where
      at : (t : Bool) → T (pick t (eqb p p) (v.agree a p p))
      at true = (eqb_is p p).1 refl
      at false = eq.reflexive a p

  pub agree_right_symmetric : (a p q : ℕ) → T (agree_right v a p q) → T (agree_right v a q p)
  agree_right_symmetric a p q = at (eqb a row)
    where
      at : (t : Bool) → T (pick t (eqb p q) (v.agree a p q)) → T (pick t (eqb q p) (v.agree a q p))
      at true h = (eqb_is q p).1 (sym ((eqb_is p q).0 h))
      at false h = eq.symmetric a p q h

  pub agree_right_transitive : (a p q r : ℕ) → T (agree_right v a p q) → T (agree_right v a q r) → T (agree_right v a p r)
  agree_right_transitive a p q r = at (eqb a row)
    where
      at : (t : Bool) → T (pick t (eqb p q) (v.agree a p q)) → T (pick t (eqb q r) (v.agree a q r))
          → T (pick t (eqb p r) (v.agree a p r))
      at true h g = (eqb_is p r).1 ((eqb_is p q).0 h ∙ (eqb_is q r).0 g)
      at false h g = eq.transitive a p q r h g

  -- two rows that break a dependency show that it does not hold, and where it does not, two rows break it, the lower
  -- first
  apart_breaks : (x a p q : ℕ) → Apart v x a p q → (p : ℕ) × (q : ℕ) × Breaks v x a p q
  apart_breaks x a p q h = at (ℕ_discrete p q) (dec_lt p q)
    where
      at : Dec (p ≡ q) → Dec (p < q) → (p : ℕ) × (q : ℕ) × Breaks v x a p q
      at (yes e) l = absurd (h.right (subst (λ (r : ℕ). T (agree_right v a p r)) e (agree_right_reflexive a p)))
      at (no n) (yes l) = (p, q, record { lower = l; exists = h.other; left = h.left; right = h.right })
      at (no n) (no m) = (
        q,
        p,
        record {
          lower = omega arith;
          exists = h.one;
          left = agree_on_symmetric x p q h.left;
          right = λ t. h.right (agree_right_symmetric a q p t);
        },
      )

  pub not_holds_breaks : (x a : ℕ) → holds v x a ≡ false → (p : ℕ) × (q : ℕ) × Breaks v x a p q
  not_holds_breaks x a e = let r = holds_false_apart v x a e in apart_breaks x a r.0 r.1 r.2

  -- it is enough to look at the pairs with the lower row first
  pub no_pair_holds : (x a : ℕ)
      → ((p q : ℕ) → p < q → q < v.rows → AgreeOn v x p q → T (agree_right v a p q)) → Holds v x a
  no_pair_holds x a h p q lp lq agree = at (ℕ_discrete p q) (dec_lt p q)
    where
      at : Dec (p ≡ q) → Dec (p < q) → T (agree_right v a p q)
      at (yes e) l = subst (λ (r : ℕ). T (agree_right v a p r)) e (agree_right_reflexive a p)
      at (no n) (yes l) = h p q l lq agree
      at (no n) (no m) = agree_right_symmetric a q p (h q p (omega arith) lp (agree_on_symmetric x p q agree))

  pub no_breaks_holds : (x a : ℕ) → ((p q : ℕ) → Breaks v x a p q → ⊥) → Holds v x a
  no_breaks_holds x a none = no_pair_holds x a (λ p q l lq agree. at p q l lq agree (decided (agree_right v a p q)))
    where
      at : (p q : ℕ) → p < q → q < v.rows → AgreeOn v x p q → T (agree_right v a p q) ⊎ (T (agree_right v a p q) → ⊥)
          → T (agree_right v a p q)
      at p q l lq agree (inl t) = t
      at p q l lq agree (inr n) = absurd (none p q (record { lower = l; exists = lq; left = agree; right = n }))

pub breaks_not_holds : {v : View} {x a p q : ℕ} → Breaks v x a p q → Holds v x a → ⊥
breaks_not_holds {p} {q} b h =
    let lp = b.lower in
    let lq = b.exists in
    b.right (h p q (omega arith) lq b.left)

pub breaks_holds_false : {v : View} {x a p q : ℕ} → Breaks v x a p q → holds v x a ≡ false
breaks_holds_false {v} {x} {a} b = false_holds v x a (breaks_not_holds b)

-- with more on the left, a dependency holds all the more
pub more_holds : (v : View) (x y a : ℕ) → Within v x y → Holds v x a → Holds v y a
more_holds v x y a w h p q lp lq agree = h p q lp lq (λ k l i. agree k l (w k l i))

-- a column less
pub without_other : (x k j : ℕ) → (j ≡ k → ⊥) → In j x → In j (without_of x k)
without_other x k j n i = bit_without_other x j k n ∙ i

pub without_lacks : (x k : ℕ) → In k (without_of x k) → ⊥
without_lacks x k i = omega (arith, bit_without_same x k)

pub without_within : (v : View) (x k : ℕ) → Within v (without_of x k) x
without_within v x k j l i = sym (bit_without_other x j k other) ∙ i
  where
    other : j ≡ k → ⊥
    other e = without_lacks x k (subst (λ (m : ℕ). In m (without_of x k)) e i)

-- minimal is least: a column less says as much as any proper subset
pub minimal_least : (v : View) (x a : ℕ) → Minimal v x a ↔ Least v x a
minimal_least v x a = (
  λ m.
      record {
        holds = m.holds;
        outside = m.outside;
        least = λ y w k l i n h. m.spare k l i (more_holds v y (without_of x k) a (kept y w k n) h);
      },
  λ m.
      record {
        holds = m.holds;
        outside = m.outside;
        spare = λ k l i h. m.least (without_of x k) (without_within v x k) k l i (without_lacks x k) h;
      },
)
  where
    kept : (y : ℕ) → Within v y x → (k : ℕ) → (In k y → ⊥) → Within v y (without_of x k)
    kept y w k n j l i =
        without_other x k j (λ e. n (subst (λ (m : ℕ). In m y) e i)) (w j l i)
