-- The answers of `partition::minimal_alone`.
use Prim.Native.Nat.{ℕ, suc, ◌^◌, ◌≤◌, ◌<◌}
use mathlib.Core.Path.{◌≡◌, sym, ap, subst, ◌∙◌}
use mathlib.Core.Logic.{◌↔◌}
use mathlib.Core.List.{List}
use native.Mathlib.Omega.{arith}
use Rattle.columns.specs.Bound.{column_bound}
use Rattle.columns.specs.Set.{bit}
use Rattle.table.specs.Words.{lacking_of}
use Rattle.table.specs.Broken.{minimal_mask}
use Rattle.table.proofs.Bits.{bit_none}
use Rattle.leaders.specs.Keys.{key_view}
use Rattle.partition.specs.Partition.{Given, Needs}
use Rattle.partition.proofs.Rights.{needed_rights}
use Rattle.partition.proofs.minimal_alone.Goals as goal

module _ (keys : List ℕ) (n end own x start wanted kept k : ℕ) (few : n ≤ column_bound) (small : x < 2 ^ n)
    (asked : own < 2 ^ suc n) (want : wanted ≡ lacking_of own x) (given : Given keys n end x wanted start)
    (is : (a : ℕ) → (bit kept a ≡ 1) ↔ ((bit start a ≡ 1) × Needs keys n end x k a)) where
  of : (r : ℕ) → ((a : ℕ) → (bit r a ≡ 1) ↔ ((bit start a ≡ 1) × Needs keys n end x n a))
      → r ≡ minimal_mask (key_view keys n end) own x
  of r =
      needed_rights keys n end x own few small asked start r (subst (λ (w : ℕ). Given keys n end x w start) want given)

  -- no right is left
  ended : k ≤ n → kept ≡ 0 → 0 ≡ minimal_mask (key_view keys n end) own x
  ended h z = of 0 (λ a. (
    λ e. absurd (omega (arith, bit_none a)),
    λ g. sym (ap (λ (r : ℕ). bit r a) z) ∙ (is a).1 (g.0, λ j l. g.1 j (omega arith)),
  ))

  -- every member is passed
  done : k ≡ n → kept ≡ minimal_mask (key_view keys n end) own x
  done e = of kept (subst (λ (m : ℕ). (a : ℕ) → (bit kept a ≡ 1) ↔ ((bit start a ≡ 1) × Needs keys n end x m a)) e is)

pub returns-then-kept-eq0 : goal.returns-then-kept-eq0
returns-then-kept-eq0 c =
    ended _ _ _ _ _ _ _ _ _ c.args.keys.few c.requires.x_bound c.requires.own_bound c.lacking.ensures
    c.given-kept.ensures c.loop-k.invariant (omega arith) c.if-kept-eq0.true

pub returns : goal.returns
returns c =
    done _ _ _ _ _ _ _ _ _ c.args.keys.few c.requires.x_bound c.requires.own_bound c.lacking.ensures
    c.given-kept.ensures c.loop-k.invariant (omega arith)
