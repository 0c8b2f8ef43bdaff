-- One reader after another, as the code goes: what the first gave is tested for 0. Forwards, what is known where the
-- last one has read something; backwards, for a return.
use Prim.Native.Nat.{ℕ, ◌≤◌, ◌<◌}
use mathlib.Core.Path.{◌≡◌, refl, sym, ap, ◌∙◌}
use mathlib.Core.Bool.{Bool, true, false}
use native.Mathlib.Decide.{ℕ_discrete, dec_lt}
use native.Mathlib.Omega.{arith}
use Rattle.std.specs.Prelude.{Option, None, Some}
use Rattle.std.specs.Option.{unwrap_or, IfSome}
use Rattle.columns.specs.Test.{pick, if_eq, if_lt}
use Rattle.columns.proofs.Test.{if_eq_yes, if_eq_no, if_lt_yes, if_lt_no}
use Rattle.model.specs.Form.{next}
use Rattle.readers.proofs.Next.{is_next_none, is_next_some}

-- the first gave nothing, and so there is nothing
pub none_read : {a : ℕ} (f : ℕ → ℕ) → 0 ≡ a → 0 ≡ next a f
none_read f e = is_next_none f (sym e)

-- it gave r, behind p
pub some_read : {r a x p : ℕ} (f : ℕ → ℕ) → r ≡ a → p < r → x ≡ f r → x ≡ next a f
some_read f e l g = is_next_some f (λ z. omega arith) (g ∙ ap f e)

-- nothing was read, and that is what is given
pub none_given : {o : Option ℕ} {x : ℕ} → o ≡ None → 0 ≡ x → unwrap_or o 0 ≡ x
none_given e h = ap (λ (o : Option ℕ). unwrap_or o 0) e ∙ h

-- what was read lies behind what was before, and so behind what was before that
pub further : (o : Option ℕ) {p q : ℕ} → p ≤ q → IfSome o (λ x. q < x) → IfSome o (λ x. p < x)
further None l h = h
further (Some x) l h = omega arith

-- a reader went on at a position that another gave
pub read_at : (f : ℕ → ℕ) {r q p : ℕ} → r ≡ f q → q ≡ p → r ≡ f p
read_at f e g = e ∙ ap f g

-- the test gave t
pub none_picked : {t u : Bool} (x : ℕ) → t ≡ u → t ≡ false → 0 ≡ pick u x 0
none_picked x e z = ap (λ (b : Bool). pick b x 0) (sym z ∙ e)

pub some_picked : {t u : Bool} {r x : ℕ} → t ≡ u → t ≡ true → r ≡ x → r ≡ pick u x 0
some_picked {x} e z g = g ∙ ap (λ (b : Bool). pick b x 0) (sym z ∙ e)

-- what a test let through
pub pick_read : (t : Bool) (x : ℕ) {r : ℕ} → pick t x 0 ≡ r → (r ≡ 0 → ⊥) → (t ≡ true) × (x ≡ r)
pick_read true x e n = (refl, e)
pick_read false x e n = absurd (n (sym e))

pub if_lt_read : (a b x : ℕ) {r : ℕ} → if_lt a b x 0 ≡ r → (r ≡ 0 → ⊥) → (a < b) × (x ≡ r)
if_lt_read a b x {r} e n = at (dec_lt a b)
  where
    at : Dec (a < b) → (a < b) × (x ≡ r)
    at (yes l) = (l, sym (if_lt_yes 0 l) ∙ e)
    at (no l) = absurd (n (sym e ∙ if_lt_no x (omega arith)))

pub if_eq_read : (a b x : ℕ) {r : ℕ} → if_eq a b x 0 ≡ r → (r ≡ 0 → ⊥) → (a ≡ b) × (x ≡ r)
if_eq_read a b x {r} e n = at (ℕ_discrete a b)
  where
    at : Dec (a ≡ b) → (a ≡ b) × (x ≡ r)
    at (yes q) = (q, sym (if_eq_yes 0 q) ∙ e)
    at (no q) = absurd (n (sym e ∙ if_eq_no x q))

pub if_ne_read : (a b x : ℕ) {r : ℕ} → if_eq a b 0 x ≡ r → (r ≡ 0 → ⊥) → (a ≡ b → ⊥) × (x ≡ r)
if_ne_read a b x {r} e n = at (ℕ_discrete a b)
  where
    at : Dec (a ≡ b) → (a ≡ b → ⊥) × (x ≡ r)
    at (yes q) = absurd (n (sym e ∙ if_eq_yes x q))
    at (no q) = (q, sym (if_eq_no 0 q) ∙ e)
