-- Loops that mark, element by element, what each of them wants.
use Prim.Native.Nat.{ℕ, ◌+◌, ◌<◌}
use mathlib.Core.Path.{◌≡◌, refl, subst, ◌∙◌}
use mathlib.Core.Logic.{◌↔◌, ◌⊎◌, inl, inr}
use native.Mathlib.Decide.{ℕ_discrete}
use native.Mathlib.Omega.{arith}
use mathlib.Core.List.{List}
use lib.ListN.{length}
use Rattle.planes.specs.Bits.{plane_bit}
use Rattle.planes.specs.Marks.{Marked}
use Rattle.planes.proofs.Marks.{marked_none}

-- what the elements below n want is marked too, and nothing else
pub record Marking (Wanted : ℕ → ℕ → Type 0) (n : ℕ) (before now : List ℕ) : Type 0 where
  pub marked : Marked (λ y. (k : ℕ) × (k < n) × Wanted y k) before now
  pub same_length : length now ≡ length before

module _ {Wanted : ℕ → ℕ → Type 0} {before : List ℕ} where
  pub marking_begun : Marking Wanted 0 before before
  marking_begun = record { marked = marked_none before (λ y w. absurd (omega (arith, w.1))); same_length = refl }

  pub marking_more : {n : ℕ} {now after : List ℕ} → length after ≡ length now → Marked (λ y. Wanted y n) now after
      → Marking Wanted n before now → Marking Wanted (n + 1) before after
  marking_more {n} {now} {after} len m g =
      record {
        marked = record { marks = λ y. (into y, out y) };
        same_length = len ∙ g.same_length;
      }
    where
      into : (y : ℕ) → plane_bit after y ≡ 1
          → (plane_bit before y ≡ 1) ⊎ ((k : ℕ) × (k < n + 1) × Wanted y k)
      into y b = elim ((m.marks y).0 b) [
        | inl p ↦ elim ((g.marked.marks y).0 p) [ inl q ↦ inl q | inr w ↦ inr (w.0, omega (arith, w.1), w.2) ]
        | inr w ↦ inr (n, omega arith, w)
      ]

      out : (y : ℕ) → (plane_bit before y ≡ 1) ⊎ ((k : ℕ) × (k < n + 1) × Wanted y k) → plane_bit after y ≡ 1
      out y (inl p) = (m.marks y).1 (inl ((g.marked.marks y).1 (inl p)))
      out y (inr w) = at (ℕ_discrete w.0 n)
        where
          at : Dec (w.0 ≡ n) → plane_bit after y ≡ 1
          at (yes e) = (m.marks y).1 (inr (subst (Wanted y) e w.2))
          at (no d) = (m.marks y).1 (inl ((g.marked.marks y).1 (inr (w.0, omega (arith, w.1), w.2))))

  -- the same in other words
  pub marking_done : {i n : ℕ} {now : List ℕ} {Q : ℕ → Type 0} → i ≡ n
      → ((y : ℕ) → Q y ↔ ((k : ℕ) × (k < n) × Wanted y k)) → Marking Wanted i before now → Marked Q before now
  marking_done {now} e is h =
      let g = subst (λ (j : ℕ). Marking Wanted j before now) e h in
      record {
        marks = λ y. (
          λ b. elim ((g.marked.marks y).0 b) [ inl p ↦ inl p | inr w ↦ inr ((is y).1 w) ],
          λ h. (g.marked.marks y).1 (elim h [ inl p ↦ inl p | inr q ↦ inr ((is y).0 q) ]),
        );
      }
