-- `rights::own_rights` meets its contract.
use Prim.Native.Nat.{ℕ, suc, ◌+◌, ◌-◌, ◌^◌, ◌≤◌}
use mathlib.Core.Path.{◌≡◌, ap, ap₂, ◌∙◌}
use mathlib.Core.List.{List}
use native.Mathlib.Numerals.{add-one}
use native.Mathlib.Omega.{arith}
use lib.Pow.{pow_mono}
use Rattle.model.specs.Catalogue.{visible, inherited}
use Rattle.model.proofs.Climb.{inherited_own}
use Rattle.rights.proofs.own_rights.Goals as goal

own_le : (b : List ℕ) (t e p q i : ℕ) → e ≡ visible b t + 1 → p ≡ 2 ^ e → i ≡ inherited b t → q ≡ 2 ^ i → q ≤ p
own_le b t e p q i u v w z = let l : i ≤ e = omega (arith, inherited_own b t) in omega (arith, pow_mono l)

is_own : (b : List ℕ) (t e p q i : ℕ) → e ≡ visible b t + 1 → p ≡ 2 ^ e → i ≡ inherited b t → q ≡ 2 ^ i
    → p - q ≡ 2 ^ suc (visible b t) - 2 ^ inherited b t
is_own b t e p q i u v w z =
    ap₂ (λ (x y : ℕ). x - y) (v ∙ ap (λ (j : ℕ). 2 ^ j) (u ∙ add-one (visible b t))) (z ∙ ap (λ (j : ℕ). 2 ^ j) w)

pub power-requires-2 : goal.power-requires-2
power-requires-2 c = omega (arith, c.inherited.ensures.few, c.members-end.ensures.is, c.members-end.ensures.few)

pub overflow_sub-result : goal.overflow_sub-result
overflow_sub-result c =
    own_le _ _ _ _ _ _ (ap (λ (n : ℕ). n + 1) c.members-end.ensures.is)
    c.power.ensures
    c.inherited.ensures.is c.power-2.ensures

pub returns : goal.returns
returns c =
    is_own _ _ _ _ _ _ (ap (λ (n : ℕ). n + 1) c.members-end.ensures.is)
    c.power.ensures
    c.inherited.ensures.is c.power-2.ensures
