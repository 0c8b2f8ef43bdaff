-- The first number from q on and below n that passes a test, as a loop finds it.
use Prim.Native.Nat.{ℕ, zero, suc, ◌+◌, ◌-◌, ◌≤◌, ◌<◌}
use Rattle.std.proofs.Common.{max}
use native.Mathlib.Decide.{dec_le}
use mathlib.Core.Path.{◌≡◌, ap, ap₂, ◌∙◌}
use mathlib.Core.Bool.{Bool, true, false}
use native.Mathlib.Omega.{arith}
use Rattle.columns.specs.Test.{pick}
use Rattle.model.specs.First.{first_from}

step : (test : ℕ → Bool) (m q : ℕ) → 0 < m
    → first_from test m q ≡ pick (test q) q (first_from test (m - 1) (q + 1))
unfolding first_from
step test zero q h = omega arith
step test (suc m) q h =
    let e : m ≡ suc m - 1 = omega arith in
    let f : suc q ≡ q + 1 = omega arith in
    ap₂ (λ (i j : ℕ). pick (test q) q (first_from test i j)) e f

past : (test : ℕ → Bool) (n q : ℕ) → n ≤ q → first_from test (n - q) q ≡ q
unfolding first_from
past test n q h = let e : n - q ≡ 0 = omega arith in ap (λ (m : ℕ). first_from test m q) e

module _ (test : ℕ → Bool) (n : ℕ) {q : ℕ} where
  -- it is q
  pub first_here : q < n → test q ≡ true → first_from test (n - q) q ≡ q
  first_here h e =
      step test (n - q) q (omega arith) ∙ ap (λ (t : Bool). pick t q (first_from test (n - q - 1) (q + 1))) e

  -- it is behind q
  pub first_more : q < n → test q ≡ false → first_from test (n - q) q ≡ first_from test (n - (q + 1)) (q + 1)
  first_more h e =
      let f : n - q - 1 ≡ n - (q + 1) = omega arith in
      step test (n - q) q (omega arith)
      ∙ (ap (λ (t : Bool). pick t q (first_from test (n - q - 1) (q + 1))) e
      ∙ ap (λ (m : ℕ). first_from test m (q + 1)) f)

  -- there is none from p on, as a loop from p up to n at q finds
  pub first_end : (p : ℕ) → first_from test (n - q) q ≡ first_from test (n - p) p → n ≤ q → (p ≤ n → q ≤ n)
      → max p n ≡ first_from test (n - p) p
  first_end p e h k = at (dec_le p n)
    where
      at : Dec (p ≤ n) → max p n ≡ first_from test (n - p) p
      at (yes l) = omega (arith, past test n q h, k l)
      at (no l) = omega (arith, past test n p (omega arith))
