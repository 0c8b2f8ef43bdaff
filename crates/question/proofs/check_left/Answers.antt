-- `question::check_left` meets its contract: a number has no bit at or above n exactly if shifting it down by n
-- leaves nothing.
use Prim.Native.Nat.{ℕ, ◌+◌, ◌*◌, ◌/◌, ◌%◌, ◌^◌, ◌≤◌, ◌<◌}
use mathlib.Core.Path.{◌≡◌, refl, sym, ap, subst, ◌∙◌}
use native.Mathlib.Decide.{dec_lt}
use native.Mathlib.Nat.{div-eq_of_lt, mod-lt, lt_of_lt_of_le}
use native.Mathlib.Omega.{arith}
use lib.Pow.{pow_pos, pow_mono, split}
use Rattle.columns.proofs.Test.{is_if_lt, is_if_not_lt}
use Rattle.model.specs.Question.{left_side_code}
use Rattle.question.proofs.check_left.Goals as goal

short : {x n v : ℕ} → x < 2 ^ 32 → n ≡ v → 32 ≤ n → x < 2 ^ v
short {n} {v} h e l = let m : 32 ≤ v = omega arith in lt_of_lt_of_le h (pow_mono m)

none_above : {x n v : ℕ} → x / 2 ^ n ≡ 0 → n ≡ v → x < 2 ^ v
none_above {x} {n} h e =
    subst (λ (k : ℕ). x < 2 ^ k) e
    (subst (λ (k : ℕ). k < 2 ^ n) (ap (λ (d : ℕ). d * 2 ^ n + x % 2 ^ n) (sym h) ∙ split x n)
    (omega (arith, mod-lt x (pow_pos n))))

some_above : {x n v : ℕ} → (x / 2 ^ n ≡ 0 → ⊥) → n ≡ v → 2 ^ v ≤ x
some_above {x} {n} h e = subst (λ (k : ℕ). 2 ^ k ≤ x) e (at (dec_lt x (2 ^ n)))
  where
    at : Dec (x < 2 ^ n) → 2 ^ n ≤ x
    at (yes l) = absurd (h (div-eq_of_lt l))
    at (no l) = omega arith

pub returns-then-n-ge-LEFT_BITS : goal.returns-then-n-ge-LEFT_BITS
unfolding left_side_code
returns-then-n-ge-LEFT_BITS c = is_if_lt _ (short (omega arith) c.visible-n.ensures c.if-n-ge-LEFT_BITS.true) refl

pub returns-then-left-n-eq0 : goal.returns-then-left-n-eq0
unfolding left_side_code
returns-then-left-n-eq0 c = is_if_lt _ (none_above c.if-left-n-eq0.true c.visible-n.ensures) refl

pub returns : goal.returns
unfolding left_side_code
returns c = is_if_not_lt _ (some_above c.if-left-n-eq0.false c.visible-n.ensures) refl
