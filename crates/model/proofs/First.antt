-- The first number that passes a test: what `first_from` says.
use Prim.Native.Nat.{ℕ, zero, suc, ◌+◌, ◌≤◌, ◌<◌}
use mathlib.Core.Path.{◌≡◌, refl, sym, ap₂, subst}
use mathlib.Core.Bool.{Bool, true, false}
use native.Mathlib.Decide.{ℕ_discrete}
use native.Mathlib.Omega.{arith}
use lib.Dec.{T}
use Rattle.columns.specs.Test.{pick}
use Rattle.model.specs.First.{first_from}

-- r is the first of the n numbers from i on that passes a test, or the one behind them
pub record FirstThat (test : ℕ → Bool) (n i r : ℕ) : Type 0 where
  pub low : i ≤ r
  pub high : r ≤ i + n
  pub passes : r < i + n → T (test r)
  pub lowest : (j : ℕ) → i ≤ j → j < r → T (test j) → ⊥

pub first_from_is : (test : ℕ → Bool) (n i : ℕ) → FirstThat test n i (first_from test n i)
unfolding first_from
first_from_is test zero i = record {
  low = omega arith;
  high = omega arith;
  passes = λ l. absurd (omega arith);
  lowest = λ j l m. absurd (omega arith);
}
first_from_is test (suc n) i = at (test i) refl (first_from_is test n (suc i))
  where
    at : (t : Bool) → test i ≡ t → FirstThat test n (suc i) (first_from test n (suc i))
        → FirstThat test (suc n) i (pick t i (first_from test n (suc i)))
    at true e f = record {
      low = omega arith;
      high = omega arith;
      passes = λ l. subst T (sym e) tt;
      lowest = λ j l m. absurd (omega arith);
    }
    at false e f = let low = f.low in let high = f.high in record {
      low = omega arith;
      high = omega arith;
      passes = λ l. f.passes (omega arith);
      lowest = λ j l m t. below j l m t (ℕ_discrete j i);
    }
      where
        below : (j : ℕ) → i ≤ j → j < first_from test n (suc i) → T (test j) → Dec (j ≡ i) → ⊥
        below j l m t (yes s) = subst T e (subst (λ (k : ℕ). T (test k)) s t)
        below j l m t (no d) = f.lowest j (omega arith) m t

-- tests that say the same have the same first
pub first_from_same : (f g : ℕ → Bool) (n i : ℕ) → ((j : ℕ) → i ≤ j → j < i + n → f j ≡ g j)
    → first_from f n i ≡ first_from g n i
unfolding first_from
first_from_same f g zero i same = refl
first_from_same f g (suc n) i same =
    ap₂ (λ (t : Bool) (r : ℕ). pick t i r) (same i (omega arith) (omega arith))
    (first_from_same f g n (suc i) (λ j l m. same j (omega arith) (omega arith)))
