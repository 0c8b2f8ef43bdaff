-- A reader again and again: no more, one more, and one that fails.
use Prim.Native.Nat.{ℕ, zero, suc, ◌+◌, ◌≤◌, ◌<◌}
use mathlib.Core.Path.{◌≡◌, refl, sym, ap, ◌∙◌}
use mathlib.Core.Bool.{Bool, true, false}
use mathlib.Core.List.{List}
use native.Mathlib.Decide.{ℕ_discrete}
use native.Mathlib.Omega.{arith}
use lib.ListN.{length}
use Rattle.columns.specs.Test.{pick}
use Rattle.model.specs.Form.{next, many_in, many}
use Rattle.readers.specs.Stands.{GoesOn}
use Rattle.readers.proofs.Next.{next_none, next_some}

done_in : (n : ℕ) (more : ℕ → Bool) (f : ℕ → ℕ) {p : ℕ} → more p ≡ false → many_in n more f p ≡ p
unfolding many_in
done_in zero more f e = refl
done_in (suc n) more f {p} e = ap (λ (t : Bool). pick t (next (f p) (many_in n more f)) p) e

fail_in : (n : ℕ) (more : ℕ → Bool) (f : ℕ → ℕ) {p : ℕ} → 0 < n → more p ≡ true → f p ≡ 0 → many_in n more f p ≡ 0
unfolding many_in
fail_in zero more f l e z = omega arith
fail_in (suc n) more f {p} l e z =
    ap (λ (t : Bool). pick t (next (f p) (many_in n more f)) p) e ∙ next_none (many_in n more f) z

step_in : (n : ℕ) (more : ℕ → Bool) (f : ℕ → ℕ) {p r : ℕ} → more p ≡ true → f p ≡ r → (r ≡ 0 → ⊥)
    → many_in (suc n) more f p ≡ many_in n more f r
unfolding many_in
step_in n more f {p} {r} e g z =
    ap (λ (t : Bool). pick t (next (f p) (many_in n more f)) p) e
    ∙ (ap (λ (x : ℕ). next x (many_in n more f)) g ∙ next_some (many_in n more f) z)

module _ (s : List ℕ) (more : ℕ → Bool) (f : ℕ → ℕ) (g : GoesOn s more f) where
  none_left : (p : ℕ) → length s ≤ p → more p ≡ false
  none_left p l = at (more p) refl
    where
      at : (t : Bool) → more p ≡ t → t ≡ false
      at false e = refl
      at true e = let h = g.inside p e in absurd (omega arith)

  -- the number of times does not matter where it is enough for what is left of the text
  enough : (n m p : ℕ) → length s ≤ p + n → length s ≤ p + m → many_in n more f p ≡ many_in m more f p
  enough zero m p a b =
      let e = none_left p (omega arith) in done_in zero more f e ∙ sym (done_in m more f e)
  enough (suc n) zero p a b =
      let e = none_left p (omega arith) in done_in (suc n) more f e ∙ sym (done_in zero more f e)
  enough (suc n) (suc m) p a b =
      by (more p) refl (ℕ_discrete (f p) 0) (λ r h. enough n m r (omega arith) (omega arith))
    where
      by : (t : Bool) → more p ≡ t → Dec (f p ≡ 0) → ((r : ℕ) → p < r → many_in n more f r ≡ many_in m more f r)
          → many_in (suc n) more f p ≡ many_in (suc m) more f p
      by false e d ih = done_in (suc n) more f e ∙ sym (done_in (suc m) more f e)
      by true e (yes z) ih = fail_in (suc n) more f (omega arith) e z ∙ sym (fail_in (suc m) more f (omega arith) e z)
      by true e (no z) ih =
          step_in n more f e refl z
          ∙ (ih (f p) (g.onward p (f p) e refl z) ∙ sym (step_in m more f e refl z))

  -- no more
  pub many_done : {p : ℕ} → more p ≡ false → many s more f p ≡ p
  many_done e = done_in (length s) more f e

  -- one that fails
  pub many_fails : {p : ℕ} → more p ≡ true → f p ≡ 0 → many s more f p ≡ 0
  many_fails {p} e z = let h = g.inside p e in fail_in (length s) more f (omega arith) e z

  -- one more
  pub many_more : {p r : ℕ} → more p ≡ true → f p ≡ r → (r ≡ 0 → ⊥) → many s more f p ≡ many s more f r
  many_more {p} {r} e z n =
      let l = g.onward p r e z n in
      enough (length s) (suc (length s)) p (omega arith) (omega arith) ∙ step_in (length s) more f e z n
