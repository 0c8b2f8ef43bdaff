-- Lefts that hold and the minimal ones, over any view: each that holds contains a minimal one, and a minimal one
-- contains no other that holds. And keys: a key gives every right, and one that is minimal for some right is a minimal
-- key.
use Prim.Native.Nat.{ℕ, zero, suc, ◌^◌, ◌≤◌, ◌<◌}
use mathlib.Core.Path.{◌≡◌, sym, subst, ◌∙◌}
use mathlib.Core.Logic.{◌⊎◌, inl, inr}
use mathlib.Core.Bool.{Bool, not, ◌&&◌}
use native.Mathlib.Decide.{ℕ_discrete}
use native.Mathlib.Omega.{arith}
use lib.Dec.{T}
use lib.Pow.{pow_pos}
use Rattle.columns.specs.Set.{bit, without_of}
use Rattle.columns.proofs.Bits.{bit_one, bits_same, bit_without_other, bit_power_le, without_lt}
use Rattle.model.specs.Bounds.{row}
use Rattle.model.specs.View.{View, Equivalence, In, is_in, agree_right, Holds, holds, Key}
use Rattle.model.specs.View.{Minimal, all_below}
use Rattle.model.specs.Contains.{Inside}
use Rattle.model.proofs.Truth.{decided, and_is, not_is, eqb_is, all_below_is, one_fails}
use Rattle.model.proofs.View.{is_in_is, holds_is, minimal_least, without_lacks, agree_right_reflexive}

-- a set with a column less lies inside it
pub without_inside : (x k : ℕ) → Inside (without_of x k) x
without_inside x k j i = sym (bit_without_other x j k other) ∙ i
  where
    other : j ≡ k → ⊥
    other e = without_lacks x k (subst (λ (m : ℕ). In m (without_of x k)) e i)

module _ (v : View) (a : ℕ) where
  -- a minimal left that lies inside x
  abbrev pub MinimalInside : ℕ → Type 0
  MinimalInside x = (y : ℕ) × (y ≤ x) × Inside y x × Minimal v y a

  -- take out a member while it still holds
  descends : (n x : ℕ) → x ≤ n → Holds v x a → (In a x → ⊥) → MinimalInside x
  descends zero x l h o = (
    x,
    omega arith,
    λ k i. i,
    record {
      holds = h;
      outside = o;
      spare = λ k m i less. omega (arith, bit_power_le x k i, pow_pos k);
    },
  )
  descends (suc n) x l h o = at (descends n) (decided (all_below v.members kept))
    where
      -- member k can be taken out, and it cannot
      spared : ℕ → Bool
      spared k = is_in k x && holds v (without_of x k) a

      kept : ℕ → Bool
      kept k = not (spared k)

      Descends : Type 0
      Descends = (y : ℕ) → y ≤ n → Holds v y a → (In a y → ⊥) → MinimalInside y

      without : Descends → (k : ℕ) → (T (kept k) → ⊥) → T (spared k) ⊎ (T (spared k) → ⊥) → MinimalInside x
      without down k f (inl t) =
          let s = (and_is (is_in k x) (holds v (without_of x k) a)).0 t in
          let m = without_lt x k ((is_in_is k x).0 s.0) in
          let r =
          down (without_of x k) (omega arith) ((holds_is v (without_of x k) a).0 s.1)
          (λ i. o (without_inside x k a i)) in
          let u = r.1 in
          (r.0, omega arith, λ j i. without_inside x k j (r.2 j i), r.3)
      without down k f (inr n) = absurd (f ((not_is (spared k)).1 n))

      at : Descends → T (all_below v.members kept) ⊎ (T (all_below v.members kept) → ⊥) → MinimalInside x
      at down (inl t) = (
        x,
        omega arith,
        λ k i. i,
        record {
          holds = h;
          outside = o;
          spare = λ k m i less.
              (not_is (spared k)).0 ((all_below_is v.members kept).0 t k m)
              ((and_is (is_in k x) (holds v (without_of x k) a)).1
              ((is_in_is k x).1 i, (holds_is v (without_of x k) a).1 less));
        },
      )
      at down (inr f) =
          let r = one_fails v.members kept f in
          without down r.0 r.2 (decided (spared r.0))

  pub contains_minimal : (x : ℕ) → Holds v x a → (In a x → ⊥) → MinimalInside x
  contains_minimal x h o = descends x x (omega arith) h o

  -- a left that holds inside a minimal one is that one
  pub minimal_only : (x y : ℕ) → x < 2 ^ v.members → y < 2 ^ v.members → Minimal v x a → Inside y x → Holds v y a
      → y ≡ x
  minimal_only x y lx ly m w h =
      bits_same v.members y x ly lx (λ k l. at k l (ℕ_discrete (bit y k) 0) (ℕ_discrete (bit x k) 0))
    where
      at : (k : ℕ) → k < v.members → Dec (bit y k ≡ 0) → Dec (bit x k ≡ 0) → bit y k ≡ bit x k
      at k l (yes p) (yes q) = p ∙ sym q
      at k l (yes p) (no q) =
          let lacks : In k y → ⊥ = omega arith in
          absurd (((minimal_least v x a).0 m).least y (λ j b i. w j i) k l (bit_one x k q) lacks h)
      at k l (no p) q = let i = bit_one y k p in i ∙ sym (w k i)

-- a key gives every right: rows that agree on it are one row
pub key_gives : (v : View) → Equivalence v → (x a : ℕ) → Key v x → Holds v x a
key_gives v eq x a key p q lp lq agree =
    subst (λ (r : ℕ). T (agree_right v a p r)) ((eqb_is p q).0 (key p q lp lq agree)) (agree_right_reflexive v eq a p)

-- a left that is a key and minimal for some right is a minimal key: a smaller key would give that right too
pub key_minimal : (v : View) → Equivalence v → (x a : ℕ) → (In row x → ⊥) → Key v x → Minimal v x a → Minimal v x row
key_minimal v eq x a low key m =
    record {
      holds = key;
      outside = low;
      spare = λ k l i less. m.spare k l i (key_gives v eq (without_of x k) a less);
    }
