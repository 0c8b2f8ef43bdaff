-- One reader after another: what is known where the second has read something, and backwards what shows what the two
-- give.
use Prim.Native.Nat.{ℕ}
use mathlib.Core.Path.{◌≡◌, refl, sym, ap, ◌∙◌}
use native.Mathlib.Decide.{ℕ_discrete}
use native.Mathlib.Omega.{arith}
use Rattle.columns.proofs.Test.{if_eq_yes, if_eq_no}
use Rattle.model.specs.Form.{next}

-- nothing was read
pub next_none : {r : ℕ} (f : ℕ → ℕ) → r ≡ 0 → next r f ≡ 0
unfolding next
next_none {r} f e = if_eq_yes (f r) e

-- something was read
pub next_some : {r : ℕ} (f : ℕ → ℕ) → (r ≡ 0 → ⊥) → next r f ≡ f r
unfolding next
next_some f n = if_eq_no 0 n

-- where both read something
pub next_read : (r : ℕ) (f : ℕ → ℕ) {q : ℕ} → next r f ≡ q → (q ≡ 0 → ⊥) → (r ≡ 0 → ⊥) × (f r ≡ q)
next_read r f {q} e n = at (ℕ_discrete r 0)
  where
    at : Dec (r ≡ 0) → (r ≡ 0 → ⊥) × (f r ≡ q)
    at (yes z) = absurd (n (sym e ∙ next_none f z))
    at (no m) = (m, sym (next_some f m) ∙ e)

-- backwards, for a return
pub is_next_none : {r : ℕ} (f : ℕ → ℕ) → r ≡ 0 → 0 ≡ next r f
is_next_none f e = sym (next_none f e)

pub is_next_some : {r x : ℕ} (f : ℕ → ℕ) → (r ≡ 0 → ⊥) → x ≡ f r → x ≡ next r f
is_next_some f n e = e ∙ sym (next_some f n)
