-- Reading off its marks, as a plane has them, whether a right is minimal for a left side x: the members of x are passed
-- one by one, the lowest first.
use Prim.Native.Nat.{ℕ, ◌-◌, ◌<◌}
use mathlib.Core.Path.{◌≡◌, sym, ap, ◌∙◌, subst}
use mathlib.Core.Bool.{true, false}
use mathlib.Core.Logic.{◌↔◌}
use native.Mathlib.Omega.{arith}
use lib.Bits.{bit_and}
use Rattle.model.proofs.Truth.{true_is}
use Rattle.table.specs.Words.{Above, Narrow}
use Rattle.table.proofs.Reading.{NarrowBut, narrow_passed, next_member, above_passed}

-- with `left` still to pass
pub record NarrowSoFar (mark : ℕ → ℕ) (x a left : ℕ) : Type 0 where
  pub within : Above left x
  pub read : NarrowBut mark x left a

module _ (mark : ℕ → ℕ) (x a : ℕ) where
  pub narrow_more : (left : ℕ) → 0 < left → NarrowSoFar mark x a left
      → mark (x - (left - bit_and left (left - 1))) ≡ 1 → NarrowSoFar mark x a (bit_and left (left - 1))
  narrow_more left h d b =
      let w = next_member x left h d.within in
      let k = w.0 in
      subst (λ (z : ℕ). NarrowSoFar mark x a z) (sym w.1.rest)
      (record {
        within = above_passed x left k d.within;
        read = narrow_passed mark x a left k (ap mark (sym w.1.less) ∙ b) d.read;
      })

  -- a left side with a column less gives the right too
  pub narrow_failed : (left : ℕ) → 0 < left → NarrowSoFar mark x a left
      → mark (x - (left - bit_and left (left - 1))) ≡ 0 → Narrow mark x a → ⊥
  narrow_failed left h d b f =
      let w = next_member x left h d.within in
      let k = w.0 in
      omega (arith, ap mark w.1.less, b, f.spare k (d.within k w.1.in_it))

  pub not_narrow : (Narrow mark x a → ⊥) → (false ≡ true) ↔ Narrow mark x a
  not_narrow n = (λ e. absurd (true_is e), λ f. absurd (n f))
