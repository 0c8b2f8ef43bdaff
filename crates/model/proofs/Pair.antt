-- The first breaking pair: `first_pair` is what `FirstPair` says, there is one exactly if the dependency does not hold,
-- and only one.
use Prim.Native.Nat.{ℕ, ◌<◌}
use mathlib.Core.Path.{◌≡◌, sym, ap₂, subst, ◌∙◌}
use mathlib.Core.Logic.{◌⊎◌, inl, inr, ◌↔◌}
use mathlib.Core.List.{[], ◌∷◌}
use native.Mathlib.Decide.{dec_lt}
use native.Mathlib.Omega.{arith}
use lib.Dec.{T, ltb, ltb→lt, lt→ltb}
use Rattle.columns.proofs.Test.{if_lt_yes, if_lt_no}
use Rattle.model.specs.View.{View, Equivalence, Holds, Breaks, breaks}
use Rattle.model.specs.Pair.{FirstPair, first_row, second_row, first_pair}
use Rattle.model.proofs.First.{FirstThat, first_from_is}
use Rattle.model.proofs.View.{breaks_is, no_breaks_holds, breaks_not_holds}

module _ (v : View) (x a : ℕ) where
  -- there is only one
  pub first_only : (p q m n : ℕ) → FirstPair v x a p q → FirstPair v x a m n → (p ≡ m) × (q ≡ n)
  first_only p q m n f g = (same, other)
    where
      same : p ≡ m
      same = omega (arith, f.lowest_first m n g.breaking, g.lowest_first p q f.breaking)

      other : q ≡ n
      other =
          omega (
            arith,
            f.lowest_second n (subst (λ (r : ℕ). Breaks v x a r n) (sym same) g.breaking),
            g.lowest_second q (subst (λ (r : ℕ). Breaks v x a r q) same f.breaking),
          )

  second_that : (p : ℕ) → FirstThat (breaks v x a p) v.rows 0 (second_row v x a p)
  unfolding second_row
  second_that p = first_from_is (breaks v x a p) v.rows 0

  first_that : FirstThat (λ p. ltb (second_row v x a p) v.rows) v.rows 0 (first_row v x a)
  unfolding first_row
  first_that = first_from_is (λ p. ltb (second_row v x a p) v.rows) v.rows 0

  -- no breaking pair is before what the two functions find
  second_least : (p n : ℕ) → Breaks v x a p n → n < second_row v x a p → ⊥
  second_least p n b l = (second_that p).lowest n (omega arith) l ((breaks_is v x a p n).1 b)

  first_least : (m n : ℕ) → Breaks v x a m n → m < first_row v x a → ⊥
  first_least m n b l =
      let h = b.exists in
      first_that.lowest m (omega arith) l
      (lt→ltb (second_row v x a m) v.rows (omega (arith, second_least m n b)))

  found : first_row v x a < v.rows → FirstPair v x a (first_row v x a) (second_row v x a (first_row v x a))
  found l =
      let p = first_row v x a in
      let h = ltb→lt (second_row v x a p) v.rows (first_that.passes (omega arith)) in
      record {
        breaking = (breaks_is v x a p (second_row v x a p)).0 ((second_that p).passes (omega arith));
        lowest_first = first_least;
        lowest_second = second_least p;
      }

  none : (first_row v x a < v.rows → ⊥) → (p q : ℕ) → Breaks v x a p q → ⊥
  none n p q b =
      let l = b.lower in
      let h = b.exists in
      first_least p q b (omega (arith, first_that.high))

  -- what it computes: two rows that are the first pair, or none where no two rows break it
  abbrev Told : Type 0
  Told =
      ((p : ℕ) × (q : ℕ) × FirstPair v x a p q × (first_pair v x a ≡ p ∷ q ∷ []))
      ⊎ (((p q : ℕ) → Breaks v x a p q → ⊥) × (first_pair v x a ≡ []))

  told : Told
  unfolding first_pair
  told = at (dec_lt (first_row v x a) v.rows)
    where
      at : Dec (first_row v x a < v.rows) → Told
      at (yes l) = inl (first_row v x a, second_row v x a (first_row v x a), found l, if_lt_yes [] l)
      at (no n) = inr (none n, if_lt_no (first_row v x a ∷ second_row v x a (first_row v x a) ∷ []) (omega arith))

  -- the function and the words say the same
  pub first_pair_is : (p q : ℕ) → (first_pair v x a ≡ p ∷ q ∷ []) ↔ FirstPair v x a p q
  first_pair_is p q = (λ e. there e told, λ f. back f told)
    where
      there : first_pair v x a ≡ p ∷ q ∷ [] → Told → FirstPair v x a p q
      there e (inl (m, n, f, g)) =
          let h : m ≡ p = cc in
          let k : n ≡ q = cc in
          subst (FirstPair v x a p) k (subst (λ (r : ℕ). FirstPair v x a r n) h f)
      there e (inr (n, g)) = let k : ◌≡◌ {A = ℕ} 0 1 = cc in absurd (omega arith)

      back : FirstPair v x a p q → Told → first_pair v x a ≡ p ∷ q ∷ []
      back f (inl (m, n, g, e)) =
          let h = first_only m n p q g f in
          e ∙ ap₂ (λ (i j : ℕ). i ∷ j ∷ []) h.0 h.1
      back f (inr (n, e)) = absurd (n p q f.breaking)

  -- it computes none exactly if no two rows break the dependency
  pub none_is : (first_pair v x a ≡ []) ↔ ((p q : ℕ) → Breaks v x a p q → ⊥)
  none_is = (λ e. there e told, λ n. back n told)
    where
      there : first_pair v x a ≡ [] → Told → (p q : ℕ) → Breaks v x a p q → ⊥
      there e (inl (m, n, f, g)) = let k : ◌≡◌ {A = ℕ} 0 1 = cc in absurd (omega arith)
      there e (inr (n, g)) = n

      back : ((p q : ℕ) → Breaks v x a p q → ⊥) → Told → first_pair v x a ≡ []
      back n (inl (p, q, f, e)) = absurd (n p q f.breaking)
      back n (inr (m, e)) = e

  -- there is one exactly if the dependency does not hold, where agreement is an equivalence
  module _ (eq : Equivalence v) where
    pub first_exists_lem : ((p : ℕ) × (q : ℕ) × FirstPair v x a p q) ↔ (Holds v x a → ⊥)
    first_exists_lem = (λ f h. breaks_not_holds f.2.breaking h, λ n. at n told)
      where
        at : (Holds v x a → ⊥) → Told → (p : ℕ) × (q : ℕ) × FirstPair v x a p q
        at n (inl (p, q, f, e)) = (p, q, f)
        at n (inr (m, e)) = absurd (n (no_breaks_holds v eq x a m))

    pub none_holds : (first_pair v x a ≡ []) ↔ Holds v x a
    none_holds = (
      λ e. no_breaks_holds v eq x a (none_is.0 e),
      λ h. none_is.1 (λ p q b. breaks_not_holds b h),
    )

-- where the same rows break a dependency in two views, its first pair is the same
pub same_pair : (v w : View) (x a : ℕ) → ((p q : ℕ) → breaks v x a p q ≡ breaks w x a p q)
    → first_pair v x a ≡ first_pair w x a
same_pair v w x a same = at (told v x a)
  where
    there : (p q : ℕ) → Breaks v x a p q → Breaks w x a p q
    there p q b = (breaks_is w x a p q).0 (subst T (same p q) ((breaks_is v x a p q).1 b))

    back : (p q : ℕ) → Breaks w x a p q → Breaks v x a p q
    back p q b = (breaks_is v x a p q).0 (subst T (sym (same p q)) ((breaks_is w x a p q).1 b))

    at : Told v x a → first_pair v x a ≡ first_pair w x a
    at (inl (p, q, f, e)) =
        e ∙ sym ((first_pair_is w x a p q).1 (record {
          breaking = there p q f.breaking;
          lowest_first = λ m n b l. f.lowest_first m n (back m n b) l;
          lowest_second = λ n b l. f.lowest_second n (back p n b) l;
        }))
    at (inr (n, e)) = e ∙ sym ((none_is w x a).1 (λ p q b. n p q (back p q b)))
