-- The present cells of a row in front of a set, from the last to the first: one cell more, and that the set stays
-- small.
use Prim.Native.Nat.{ℕ, suc, ◌+◌, ◌-◌, ◌*◌, ◌^◌, ◌≤◌, ◌<◌}
use mir.Val.{bool_byte}
use mathlib.Core.Path.{◌≡◌, refl, sym, ap, ap₂, ◌∙◌}
use mathlib.Core.Bool.{Bool, true, false}
use native.Mathlib.Nat.{mul_assoc, mul-le-mul_left}
use native.Mathlib.Omega.{arith}
use lib.Pow.{pow-add, pow_mono}
use Rattle.columns.specs.Bound.{column_bound}
use Rattle.columns.specs.Set.{set_below}
use Rattle.columns.specs.Test.{pick}
use Rattle.columns.proofs.SetBelow.{set_below_same, set_below_split, set_below_lt}
use Rattle.presence.specs.Cells.{joined_from}

-- a test as a number
pub test_small : {r : ℕ} (b : Bool) → r ≡ bool_byte b → r ≤ 1
test_small true e = omega arith
test_small false e = omega arith

pub test_pick : (b : Bool) → bool_byte b ≡ pick b 1 0
test_pick true = refl
test_pick false = refl

one_below : (f : ℕ → Bool) → set_below 1 f ≡ pick (f 0) 1 0
unfolding set_below
one_below f = omega arith

-- one number more in front
joined_suc : (f : ℕ → Bool) (i m set : ℕ)
    → 2 * joined_from f (i + 1) m set + pick (f i) 1 0 ≡ joined_from f i (1 + m) set
joined_suc f i m set =
    let split = set_below_split 1 m (λ k. f (i + k)) in
    let first = one_below (λ k. f (i + k)) ∙ ap (λ (k : ℕ). pick (f k) 1 0) zeroth in
    let rest = set_below_same m (λ k. f (i + (1 + k))) (λ k. f (i + 1 + k)) (λ k l. ap f (further k)) in
    omega (arith, split, first, rest, doubled)
  where
    zeroth : i + 0 ≡ i
    zeroth = omega arith

    further : (k : ℕ) → i + (1 + k) ≡ i + 1 + k
    further k = omega arith

    doubled : 2 ^ (1 + m) * set ≡ 2 * (2 ^ m * set)
    doubled = ap (λ (p : ℕ). p * set) (pow-add 2 1 m) ∙ mul_assoc 2 (2 ^ m) set

-- the numbers from j to c so far
abbrev pub Joining : (ℕ → Bool) → ℕ → ℕ → ℕ → ℕ → Type 0
Joining f c set j joined = (j ≤ c) × (joined ≡ joined_from f j (c - j) set)

module _ (f : ℕ → Bool) (c set : ℕ) where
  pub joining_begun : Joining f c set c set
  unfolding set_below
  joining_begun = (omega arith, sym (ap (λ (m : ℕ). joined_from f c m set) none ∙ omega arith))
    where
      none : c - c ≡ 0
      none = omega arith

  pub joining_more : (j joined r : ℕ) → 0 < j → Joining f c set j joined → r ≡ pick (f (j - 1)) 1 0
      → Joining f c set (j - 1) (2 * joined + r)
  joining_more j joined r p g e = (
    omega (arith, g.0),
    ap₂ (λ (s t : ℕ). 2 * s + t) (g.1 ∙ ap (λ (k : ℕ). joined_from f k (c - j) set) back) e
        ∙ joined_suc f (j - 1) (c - j) set ∙ ap (λ (m : ℕ). joined_from f (j - 1) m set) wider,
  )
    where
      back : j ≡ j - 1 + 1
      back = omega arith

      wider : 1 + (c - j) ≡ c - (j - 1)
      wider = omega (arith, g.0)

  -- there is room for one more
  pub joining_small : (j joined : ℕ) → 0 < j → Joining f c set j joined → c ≤ column_bound → set < 2 ^ column_bound
      → 2 * joined + 1 < 2 ^ 32
  joining_small j joined p g few small =
      omega (
        arith,
        g.1,
        set_below_lt (c - j) (λ k. f (j + k)),
        mul-le-mul_left (2 ^ (c - j)) small,
        mul_suc_le,
        pow_mono fewer,
      )
    where
      fewer : c - j ≤ 15
      fewer = omega arith

      mul_suc_le : 2 ^ (c - j) * suc set ≡ 2 ^ (c - j) + 2 ^ (c - j) * set
      mul_suc_le = omega arith
