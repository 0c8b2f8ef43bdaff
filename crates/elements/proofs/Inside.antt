-- Content, element by element, as a loop reads it.
use Prim.Native.Nat.{ℕ, ◌<◌}
use mathlib.Core.Path.{◌≡◌, sym, ap, ◌∙◌}
use mathlib.Core.Bool.{Bool, true, false}
use mathlib.Core.List.{List}
use native.Mathlib.Omega.{arith}
use lib.ListN.{length}
use Rattle.model.specs.Forest.{Cells}
use Rattle.model.specs.Form.{next, many, skip, is_open, content_by, element_at}
use Rattle.readers.proofs.Next.{next_none, next_some}
use Rattle.readers.proofs.Many.{many_done, many_more, many_fails}
use Rattle.scanner.proofs.Progress.{skip_low}
use Rattle.elements.proofs.Progress.{elements_go}

-- behind an element and the white space after it
abbrev pub element_then : List ℕ → (ℕ → ℕ → Cells → Bool) → ℕ → ℕ → ℕ → ℕ
element_then s fits d up q = next (element_at s fits d up q) (skip s)

-- the content from q on, where no white space stands
abbrev pub content_from : List ℕ → (ℕ → ℕ → Cells → Bool) → ℕ → ℕ → ℕ → ℕ
content_from s fits d up q = many s (is_open s) (element_then s fits d up) q

module _ (s : List ℕ) (fits : ℕ → ℕ → Cells → Bool) (d up : ℕ) where
  pub content_begun : (p : ℕ) {q : ℕ} → q ≡ skip s p
      → content_from s fits d up q ≡ content_by s (element_at s fits d up) p
  unfolding content_by
  content_begun p e = ap (content_from s fits d up) e

  module _ (q : ℕ) {t : Bool} (o : t ≡ is_open s q) where
    -- no element follows
    pub content_done : t ≡ false → content_from s fits d up q ≡ q
    content_done z = many_done s _ _ (elements_go s fits d up) (sym o ∙ z)

    module _ (z : t ≡ true) where
      -- one follows that is not of the form
      pub content_fails : 0 ≡ element_at s fits d up q → content_from s fits d up q ≡ 0
      content_fails f = many_fails s _ _ (elements_go s fits d up) (sym o ∙ z) (next_none (skip s) (sym f))

      module _ {e : ℕ} (f : e ≡ element_at s fits d up q) (w : q < e) {x : ℕ} (g : x ≡ skip s e) where
        then : element_then s fits d up q ≡ x
        then = next_some (skip s) (λ v. omega (arith, f ∙ v)) ∙ (ap (skip s) (sym f) ∙ sym g)

        pub content_nearer : (q < x) × (q < length s)
        content_nearer = (omega (arith, skip_low s e), (elements_go s fits d up).inside q (sym o ∙ z))

        -- one follows that is
        pub content_more : content_from s fits d up q ≡ content_from s fits d up x
        content_more =
            many_more s _ _ (elements_go s fits d up) (sym o ∙ z) then (λ v. omega (arith, content_nearer))
