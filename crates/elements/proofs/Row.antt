-- An element, step by step, for a return.
use Prim.Native.Nat.{ℕ, zero, suc, ◌+◌, ◌-◌, ◌<◌}
use mathlib.Core.Path.{◌≡◌, refl, ap, ◌∙◌}
use mathlib.Core.Bool.{Bool, true, false}
use mathlib.Core.List.{List}
use native.Mathlib.Omega.{arith}
use lib.ListN.{drop}
use Rattle.columns.specs.Test.{pick}
use Rattle.model.specs.Forest.{Cells}
use Rattle.model.specs.Form.{number_in, capped, cells_in, next, tag_at, table_of, attributes_of, name_of}
use Rattle.model.specs.Form.{rest_at, content_by}
use Rattle.model.specs.Form.{element_at}
use Rattle.scanner.proofs.Read.{none_read, some_read, none_picked, some_picked}

module _ (s : List ℕ) (fits : ℕ → ℕ → Cells → Bool) (up p : ℕ) where
  -- the rest of an element, from the end of its tag on, at depth n
  abbrev rest_of : ℕ → ℕ → ℕ
  rest_of n a = rest_at s (content_by s (element_at s fits n (table_of s p))) (name_of s p) a

  step : (n : ℕ) → (n ≡ 0 → ⊥)
      → next (tag_at s p) (λ a. pick (fits up (table_of s p) (attributes_of s p)) (rest_of (n - 1) a) 0)
      ≡ element_at s fits n up p
  unfolding element_at
  step zero l = absurd (l refl)
  step (suc d) l =
      let e : suc d - 1 ≡ d = omega arith in
      ap (λ (m : ℕ). next (tag_at s p) (λ a. pick (fits up (table_of s p) (attributes_of s p)) (rest_of m a) 0)) e

  module _ (n : ℕ) (l : n ≡ 0 → ⊥) where
    -- there is no tag
    pub element_none : 0 ≡ tag_at s p → 0 ≡ element_at s fits n up p
    element_none e = none_read _ e ∙ step n l

    module _ {a : ℕ} (e : a ≡ tag_at s p) (z : p < a) {t : Bool}
        (f : t ≡ fits up (capped (number_in (drop (p + 2) s))) (cells_in (drop (p + 2) s))) where
      -- the tag is not to be taken
      pub element_unfit : t ≡ false → 0 ≡ element_at s fits n up p
      unfolding table_of attributes_of
      element_unfit y = some_read _ e z (none_picked _ f y) ∙ step n l

      -- it is, and the rest follows
      pub element_fit : {r : ℕ} → t ≡ true → r ≡ rest_of (n - 1) a → r ≡ element_at s fits n up p
      unfolding table_of attributes_of
      element_fit y g = some_read _ e z (some_picked f y g) ∙ step n l
