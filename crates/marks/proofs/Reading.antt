-- Reading planes: whether a set is covered, whether it contains no key, and the members of a set one by one.
use Prim.Native.Nat.{ℕ, ◌-◌, ◌<◌}
use mathlib.Core.Path.{◌≡◌, sym, ap, subst, ◌∙◌}
use mathlib.Core.Logic.{◌↔◌, inl, inr}
use mathlib.Core.Bool.{true}
use mathlib.Core.List.{List}
use native.Mathlib.Decide.{ℕ_discrete}
use native.Mathlib.Omega.{arith}
use borrow.Author.Tests.{eqb-true, eq-eqb}
use lib.Bits.{bit_and}
use lib.Dec.{eqb}
use Rattle.columns.specs.Set.{bit, without_of}
use Rattle.columns.proofs.Bits.{bit_without_other}
use Rattle.model.specs.Bounds.{row}
use Rattle.table.specs.Words.{Above}
use Rattle.table.proofs.Bits.{bit_none}
use Rattle.table.proofs.Reading.{next_member, above_passed}
use Rattle.planes.specs.Bits.{plane_bit}
use Rattle.marks.specs.Marks.{mirror, CoveredBy, Alone}
use Rattle.marks.specs.Listed.{Keyless}
use Rattle.marks.proofs.Closed.{not_one}

-- the bit read at p, the mirror of x
pub mirror_read : (plane : List ℕ) (m x : ℕ) {p r : ℕ} → p ≡ mirror m x → r ≡ plane_bit plane p
    → r ≡ plane_bit plane (mirror m x)
mirror_read plane m x e s = s ∙ ap (plane_bit plane) e

-- a set that is marked neither by its mirror nor itself is covered if it is not backed
pub covered_unbacked : (backed keys lefts sets : List ℕ) (m a x : ℕ) {b : ℕ} → bit x a ≡ 0
    → plane_bit keys (mirror m x) ≡ 0 → plane_bit lefts (mirror m x) ≡ 0 → plane_bit sets x ≡ 0 → b ≡ plane_bit backed x
    → (eqb b 0 ≡ true) ↔ CoveredBy backed keys lefts sets m a x
covered_unbacked backed keys lefts sets m a x {b} out key left set is = (
  λ e o i. absurd (omega (arith, eqb-true b 0 e)),
  λ f. eq-eqb b 0 (is ∙ not_one (plane_bit backed x) (omega arith)
      (λ i. elim (f out i) [ inl c ↦ omega arith | inr (inl c) ↦ omega arith | inr (inr c) ↦ omega arith ])),
)

-- a set x contains no key if its mirror is not marked, where the right is a column
pub unmarked_keyless : (keys : List ℕ) (m right x : ℕ) {b : ℕ} → (right ≡ row → ⊥)
    → b ≡ plane_bit keys (mirror m x) → (eqb b 0 ≡ true) ↔ Keyless keys m right x
unmarked_keyless keys m right x {b} column is = (
  λ e i. sym is ∙ eqb-true b 0 e,
  λ none. eq-eqb b 0 (is ∙ none column),
)

-- the members of x are passed one by one, the lowest first: with `left` still to pass, x without any other member is
-- not marked by its mirror
pub record AloneBut (lefts : List ℕ) (m x left : ℕ) : Type 0 where
  pub within : Above left x
  pub passed : (k : ℕ) → bit x k ≡ 1 → bit left k ≡ 0 → plane_bit lefts (mirror m (without_of x k)) ≡ 0

module _ (lefts : List ℕ) (m x : ℕ) where
  pub alone_begun : AloneBut lefts m x x
  alone_begun = record { within = λ k i. i; passed = λ k i n. absurd (omega arith) }

  pub alone_more : (left : ℕ) → 0 < left → AloneBut lefts m x left
      → plane_bit lefts (mirror m (x - (left - bit_and left (left - 1)))) ≡ 0
      → AloneBut lefts m x (bit_and left (left - 1))
  alone_more left h d b =
      let w = next_member x left h d.within in
      let k = w.0 in
      subst (λ (z : ℕ). AloneBut lefts m x z) (sym w.1.rest)
      (record {
        within = above_passed x left k d.within;
        passed = λ j i n.
            at k (sym (ap (λ (y : ℕ). plane_bit lefts (mirror m y)) w.1.less) ∙ b) j i n (ℕ_discrete j k);
      })
    where
      at : (k : ℕ) → plane_bit lefts (mirror m (without_of x k)) ≡ 0 → (j : ℕ) → bit x j ≡ 1
          → bit (without_of left k) j ≡ 0 → Dec (j ≡ k) → plane_bit lefts (mirror m (without_of x j)) ≡ 0
      at k z j i n (yes s) = subst (λ (y : ℕ). plane_bit lefts (mirror m (without_of x y)) ≡ 0) (sym s) z
      at k z j i n (no o) = d.passed j i (sym (bit_without_other left j k o) ∙ n)

  pub alone_failed : (left : ℕ) → 0 < left → AloneBut lefts m x left
      → (plane_bit lefts (mirror m (x - (left - bit_and left (left - 1)))) ≡ 0 → ⊥) → Alone lefts m x → ⊥
  alone_failed left h d b f =
      let w = next_member x left h d.within in
      let k = w.0 in
      b (ap (λ (y : ℕ). plane_bit lefts (mirror m y)) w.1.less ∙ f k (d.within k w.1.in_it))

  pub alone_done : (left : ℕ) → left ≡ 0 → AloneBut lefts m x left → Alone lefts m x
  alone_done left e d k i = d.passed k i (ap (λ (z : ℕ). bit z k) e ∙ bit_none k)
