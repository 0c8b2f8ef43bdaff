-- `partition::needing` meets its contract.
use Prim.Native.Nat.{ℕ, ◌-◌, ◌^◌}
use mathlib.Core.Path.{◌≡◌, sym, ap, subst, ◌∙◌}
use mathlib.Core.Logic.{◌↔◌}
use mathlib.Core.List.{List}
use native.Mathlib.Omega.{arith}
use Rattle.columns.specs.Set.{bit, without_of}
use Rattle.columns.proofs.Bits.{bit_one, without_some}
use Rattle.model.specs.View.{In}
use Rattle.table.specs.Words.{lacking_of}
use Rattle.table.proofs.Bits.{bit_lacking}
use Rattle.table.proofs.Table.{bit_zero_if}
use Rattle.partition.specs.Partition.{Given, Spares}
use Rattle.partition.proofs.needing.Goals as goal

-- x without member k gives the rights g
module _ (keys : List ℕ) (n end x k rights p g r : ℕ) (i : In k x) (is : p ≡ 2 ^ k)
    (given : Given keys n end (x - p) rights g)
    (rest : r ≡ lacking_of rights g) where
  less : Given keys n end (without_of x k) rights g
  less = subst (λ (y : ℕ). Given keys n end y rights g) (ap (λ (p : ℕ). x - p) is ∙ sym (without_some x k i)) given

  needed : (a : ℕ) → (bit r a ≡ 1) ↔ ((bit rights a ≡ 1) × (In k x → Spares keys n end x a k → ⊥))
  needed a =
      let b = ap (λ (r : ℕ). bit r a) rest ∙ bit_lacking rights g a in (
        λ e. (omega arith, λ j s. let o = (less a).1 (omega arith, s.0, s.1) in omega arith),
        λ f.
            let o = f.0 in
            let z = bit_zero_if g a (λ e. let h = (less a).0 e in f.1 i (h.1, h.2)) in
            omega arith,
      )

pub returns : goal.returns
returns c =
    needed c.args.keys.keys.now _ _ _ _ _ _ _ _ (bit_one _ _ c.if-x-k-eq0.false)
    c.power.ensures
    c.given.ensures c.lacking.ensures
