-- Functions that answer true exactly if something holds: what is to be shown for either answer, and what it tells.
use mathlib.Core.Path.{◌≡◌, refl, sym, subst}
use mathlib.Core.Logic.{◌↔◌}
use mathlib.Core.Bool.{Bool, true, false, not}
use borrow.Author.Tests.{not-true, not-false}
pub use Rattle.filled.proofs.Below.{below_more}
use Rattle.model.proofs.Truth.{true_is, false_is}

pub says_no : {P : Type 0} → (P → ⊥) → (false ≡ true) ↔ P
says_no n = (λ e. absurd (true_is e), λ p. absurd (n p))

pub says_yes : {P : Type 0} → P → (true ≡ true) ↔ P
says_yes p = (λ e. p, λ q. refl)

pub said_no : {P : Type 0} {r : Bool} → (r ≡ true) ↔ P → not r ≡ true → P → ⊥
said_no {r} is n p = false_is (not-true r n) (true_is (is.1 p))

pub said_yes : {P : Type 0} {r : Bool} → (r ≡ true) ↔ P → not r ≡ false → P
said_yes {r} is n = is.0 (not-false r n)

-- the same question in other words
pub same_answer : {b : Bool} {P Q : Type 0} → (P → Q) → (Q → P) → (b ≡ true) ↔ P → (b ≡ true) ↔ Q
same_answer f g h = (λ e. f (h.0 e), λ q. h.1 (g q))

pub same_as : {b : Bool} {P Q : Type 0} → P ↔ Q → (b ≡ true) ↔ Q → (b ≡ true) ↔ P
same_as is h = same_answer is.1 is.0 h

-- the answer for e, which was read as f
module _ {A : Type 0} (P : A → Type 0) {e f : A} {r : Bool} (s : e ≡ f) (is : (r ≡ true) ↔ P e) where
  pub read_no : not r ≡ true → P f → ⊥
  read_no n p = said_no is n (subst P (sym s) p)

  pub read_yes : not r ≡ false → P f
  read_yes n = subst P s (said_yes is n)
