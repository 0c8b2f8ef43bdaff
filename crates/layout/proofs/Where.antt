-- That a row's place fits, the sets of the tables from one on, and the lemmas that a climb and a sum of sets need.
use Prim.Native.Nat.{ℕ, zero, suc, ◌+◌, ◌-◌, ◌*◌, ◌^◌, ◌≤◌, ◌<◌}
use mathlib.Core.Path.{◌≡◌, ap, ◌∙◌}
use mathlib.Core.List.{List}
use native.Mathlib.Nat.{mul-le-mul, le_of_lt}
use native.Mathlib.Omega.{arith}
use lib.Pow.{pow_mono}
use Rattle.columns.specs.Bound.{column_bound}
use Rattle.model.specs.Catalogue.{tables, visible, sets_from}
use Rattle.model.specs.Check.{Accepted}
use Rattle.model.proofs.Check.{accepted_tables, accepted_visible}
use Rattle.model.proofs.Climb.{climb_ends, climb_goes_on, climb_over}

-- a row's distance from the first fits
pub product_small : (k c : ℕ) → k < 2 ^ 32 → c < 2 ^ 16 → k * (2 + 4 * c) ≤ 2 ^ 32 * (2 + 4 * 2 ^ 16)
product_small k c hk hc =
    mul-le-mul {n₁ = k} {m₁ = 2 + 4 * c} {n₂ = 2 ^ 32} {m₂ = 2 + 4 * 2 ^ 16} (le_of_lt hk) (omega arith)

-- the sets of the targets from i on, n targets in all
sets_first : (cat : List ℕ) (n i : ℕ) → 0 < n → sets_from cat n i ≡ 2 ^ visible cat i + sets_from cat (n - 1) (i + 1)
unfolding sets_from
sets_first cat zero i h = omega arith
sets_first cat (suc n) i h =
    let p : n ≡ suc n - 1 = omega arith in
    let q : suc i ≡ i + 1 = omega arith in
    ap (λ (x : ℕ). 2 ^ visible cat i + sets_from cat x (suc i)) p
    ∙ ap (λ (x : ℕ). 2 ^ visible cat i + sets_from cat (suc n - 1) x) q

pub sets_go_on : (cat : List ℕ) (n i : ℕ) → i < n →
    sets_from cat (n - i) i ≡ 2 ^ visible cat i + sets_from cat (n - (i + 1)) (i + 1)
sets_go_on cat n i h =
    let p : n - i - 1 ≡ n - (i + 1) = omega arith in
    sets_first cat (n - i) i (omega arith) ∙ ap (λ (x : ℕ). 2 ^ visible cat i + sets_from cat x (i + 1)) p

pub sets_over : (cat : List ℕ) (n i : ℕ) → n ≤ i → sets_from cat (n - i) i ≡ 0
unfolding sets_from
sets_over cat n i h =
    let p : n - i ≡ 0 = omega arith in
    ap (λ (x : ℕ). sets_from cat x i) p

-- a target has as many sets as the bound on columns allows, at most
pub accepted_sets : (cat : List ℕ) → Accepted cat → (i : ℕ) → i < tables cat → 2 ^ visible cat i ≤ 2 ^ column_bound
accepted_sets cat e i h = pow_mono (accepted_visible cat e i h)

-- what a count of visible columns and a sum of sets need
pub ruleset climbs = (climb_ends, climb_goes_on, climb_over)

pub ruleset summed = (accepted_tables, accepted_visible, accepted_sets, sets_go_on, sets_over)
