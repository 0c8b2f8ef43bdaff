-- The rest of an element from the end of its tag on, backwards, for a return.
use Prim.Native.Nat.{ℕ, ◌+◌, ◌≤◌, ◌<◌}
use mathlib.Core.Path.{◌≡◌, sym, ◌∙◌}
use mathlib.Core.List.{List}
use native.Mathlib.Omega.{arith}
use Rattle.columns.proofs.Test.{is_if_eq, is_if_ne}
use Rattle.model.specs.Bytes.{byte_at}
use Rattle.model.specs.Xml.{slash, greater}
use Rattle.model.specs.Form.{expect, end_at, rest_at}
use Rattle.scanner.proofs.Read.{none_read, some_read}

module _ (s : List ℕ) (inside : ℕ → ℕ) (name : List ℕ) (p : ℕ) {x : ℕ} (e : x ≡ byte_at s p) where
  -- it is `/>`
  pub rest_empty : {r : ℕ} → x ≡ slash → r ≡ expect s greater (p + 1) → r ≡ rest_at s inside name p
  unfolding rest_at
  rest_empty z h = is_if_eq _ (sym e ∙ z) h

  module _ (z : x ≡ slash → ⊥) where
    -- it is neither that nor `>`
    pub rest_none : 0 ≡ expect s greater p → 0 ≡ rest_at s inside name p
    unfolding rest_at
    rest_none f = is_if_ne _ (λ w. z (e ∙ w)) (none_read _ f)

    module _ {a : ℕ} (f : a ≡ expect s greater p) (y : p < a) where
      -- what is inside is not of the form
      pub rest_bad : 0 ≡ inside a → 0 ≡ rest_at s inside name p
      unfolding rest_at
      rest_bad g = is_if_ne _ (λ v. z (e ∙ v)) (some_read _ f y (none_read _ g))

      -- it goes up to the end tag
      pub rest_filled : {b r : ℕ} → b ≡ inside a → a ≤ b → r ≡ end_at s name b → r ≡ rest_at s inside name p
      unfolding rest_at
      rest_filled {b} g w h =
          let l : p < b = omega arith in is_if_ne _ (λ v. z (e ∙ v)) (some_read _ f y (some_read _ g l h))
