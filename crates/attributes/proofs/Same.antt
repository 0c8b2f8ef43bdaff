-- Two numbers in a text, digit by digit: without leading zeros they are equal exactly if their digits are.
use Prim.Native.Nat.{ℕ, ◌+◌, ◌-◌, ◌*◌, ◌≤◌, ◌<◌}
use mathlib.Core.Path.{◌≡◌, sym, ap, ◌∙◌}
use mathlib.Core.Bool.{Bool, true, false, not}
use mathlib.Core.List.{List, [], ◌∷◌}
use native.Mathlib.Decide.{dec_lt}
use native.Mathlib.Omega.{arith}
use lib.Dec.{eqb}
use lib.ListN.{length, drop, get_or, drop_of_length-le, get_or-eq_default}
use borrow.Author.Tests.{eq-eqb, ne_eqb, eqb-true, eqb-false, not-true, not-false}
use Rattle.std.specs.Option.{MatchOption, option_eq, is_some}
use Rattle.std.specs.Prelude.{Option, Some, None}
use Rattle.columns.specs.Test.{pick}
use Rattle.model.specs.Form.{is_digit, number_from, number_in}
use Rattle.attributes.specs.Digits.{digit_in, BehindZeros}
use Rattle.attributes.proofs.Digits.{digit_low, digit_high, digit_is, digit_small, digit_most}
use Rattle.attributes.proofs.Digits.{number_digit, number_step, number_ended, number_least}

-- a leading zero changes nothing
pub zero_passed : (s : List ℕ) (i : ℕ) → get_or s i 0 ≡ 48 → number_in (drop (i + 1) s) ≡ number_in (drop i s)
zero_passed s i z = number_digit 0 s i (digit_zero s i z) (omega arith)
  where
    digit_zero : (s : List ℕ) (i : ℕ) → get_or s i 0 ≡ 48 → 0 ≡ digit_in (drop i s)
    digit_zero s i z = omega (arith, digit_is s i (omega arith) (omega arith))

-- without leading zeros the first digit is not 0
no_zero : (s : List ℕ) (i : ℕ) → (get_or s i 0 ≡ 48 → ⊥) → 0 < digit_in (drop i s)
no_zero s i n = at (dec_lt (get_or s i 0) 48) (dec_lt 57 (get_or s i 0))
  where
    at : Dec (get_or s i 0 < 48) → Dec (57 < get_or s i 0) → 0 < digit_in (drop i s)
    at (yes l) d = omega (arith, digit_low s i l)
    at (no l) (yes m) = omega (arith, digit_high s i m)
    at (no l) (no m) = omega (arith, digit_is s i (omega arith) (omega arith))

module _ (s : List ℕ) (p i : ℕ) (e : number_in (drop i s) ≡ number_in (drop p s)) where
  -- the first that is no zero, and the end
  pub zeros_ended : (get_or s i 0 ≡ 48 → ⊥) → BehindZeros s p i
  zeros_ended n = record { same = e; first = no_zero s i n }

  pub zeros_past : {r : ℕ} → length s ≤ i → length s ≤ r → BehindZeros s p r
  zeros_past {r} h k =
      record {
        same = ap number_in (drop_of_length-le s k ∙ sym (drop_of_length-le s h)) ∙ e;
        first = no_zero s r (λ z. omega (arith, get_or-eq_default s 0 k));
      }

-- two numbers that are apart, and the larger less than ten times the other, stay apart with any digits behind them
apart : (a b : ℕ) (l m : List ℕ) → a < b → b < 10 * a → number_from a l ≡ number_from b m → ⊥
unfolding number_from
apart a b [] m h k e = omega (arith, number_least b m)
apart a b (x ∷ l) [] h k e = at (is_digit x) e
  where
    at : (t : Bool) → pick t (number_from (10 * a + (x - 48)) l) a ≡ b → ⊥
    at true f = omega (arith, number_least (10 * a + (x - 48)) l)
    at false f = omega arith
apart a b (x ∷ l) (y ∷ m) h k e =
    at (is_digit x) (is_digit y) (digit_small x) (digit_small y) (apart (10 * a + (x - 48)) (10 * b + (y - 48)) l m) e
  where
    at : (t u : Bool) → pick t (x - 48) 0 ≤ 9 → pick u (y - 48) 0 ≤ 9
        → (10 * a + (x - 48) < 10 * b + (y - 48) → 10 * b + (y - 48) < 10 * (10 * a + (x - 48))
        → number_from (10 * a + (x - 48)) l ≡ number_from (10 * b + (y - 48)) m → ⊥)
        → pick t (number_from (10 * a + (x - 48)) l) a ≡ pick u (number_from (10 * b + (y - 48)) m) b → ⊥
    at true true v w r f = r (omega arith) (omega arith) f
    at true false v w r f = omega (arith, number_least (10 * a + (x - 48)) l)
    at false true v w r f = omega (arith, number_least (10 * b + (y - 48)) m)
    at false false v w r f = omega arith

-- after the same n, and without leading zeros, numbers that go on with other digits are others
differ : (n : ℕ) (l m : List ℕ) → 0 < n + digit_in l → digit_in l < digit_in m → number_from n l ≡ number_from n m → ⊥
differ n l m p h e = at (dec_lt (digit_in m) 10)
  where
    longer : 10 * n + digit_in l ≤ number_from n l
    longer = omega (
      arith,
      number_step n l (omega (arith, digit_most m)),
      number_least (10 * n + digit_in l) (drop 1 l),
    )

    at : Dec (digit_in m < 10) → ⊥
    at (yes q) =
        apart (10 * n + digit_in l) (10 * n + digit_in m) (drop 1 l) (drop 1 m) (omega arith) (omega arith)
        (sym (number_step n l (omega arith)) ∙ e ∙ number_step n m q)
    at (no q) = omega (arith, longer, number_ended n m (omega arith))

-- a digit, if one was read, is not d, or it is
pub other_digit : (r : Option ℕ) {d e : ℕ} → MatchOption r (e ≡ 10) (λ x. (x < 10) × (x ≡ e)) → d < 10
    → not (option_eq eqb r (Some d)) ≡ true → d ≡ e → ⊥
other_digit None m h n f = omega arith
other_digit (Some x) {d} m h n f = eqb-false x d (not-true _ n) (m.1 ∙ sym f)

pub same_digit : (r : Option ℕ) {d e : ℕ} → MatchOption r (e ≡ 10) (λ x. (x < 10) × (x ≡ e))
    → not (option_eq eqb r (Some d)) ≡ false → d ≡ e
same_digit None m n = cc
same_digit (Some x) {d} m n = sym (eqb-true x d (not-false _ n)) ∙ m.1

-- two numbers read in step, at i and j: the same n was read of both
pub record InStep (s : List ℕ) (a b i j : ℕ) : Type 0 where
  pub n : ℕ
  pub first : number_from n (drop i s) ≡ number_in (drop a s)
  pub second : number_from n (drop j s) ≡ number_in (drop b s)
  pub leads_first : 0 < n + digit_in (drop i s)
  pub leads_second : 0 < n + digit_in (drop j s)

module _ (s : List ℕ) (a b : ℕ) where
  pub in_step_begun : {i j : ℕ} → BehindZeros s a i → BehindZeros s b j → InStep s a b i j
  in_step_begun h k =
      record {
        n = 0;
        first = h.same;
        second = k.same;
        leads_first = omega (arith, h.first);
        leads_second = omega (arith, k.first);
      }

  module _ {i j : ℕ} (w : InStep s a b i j) where
    pub in_step_more : {d : ℕ} → d < 10 → d ≡ digit_in (drop i s) → d ≡ digit_in (drop j s)
        → InStep s a b (i + 1) (j + 1)
    in_step_more {d} h e f =
        record {
          n = 10 * w.n + d;
          first = number_digit w.n s i e h ∙ w.first;
          second = number_digit w.n s j f h ∙ w.second;
          leads_first = omega (arith, w.leads_first);
          leads_second = omega (arith, w.leads_first);
        }

    in_step_same : digit_in (drop i s) ≡ 10 → digit_in (drop j s) ≡ 10
        → true ≡ eqb (number_in (drop a s)) (number_in (drop b s))
    in_step_same e f =
        sym (eq-eqb _ _ (sym w.first ∙ number_ended w.n (drop i s) (omega arith)
        ∙ sym (number_ended w.n (drop j s) (omega arith)) ∙ w.second))

    pub in_step_other : (digit_in (drop i s) ≡ digit_in (drop j s) → ⊥)
        → false ≡ eqb (number_in (drop a s)) (number_in (drop b s))
    in_step_other g = sym (ne_eqb _ _ (λ same. at same (dec_lt (digit_in (drop i s)) (digit_in (drop j s)))))
      where
        at : number_in (drop a s) ≡ number_in (drop b s) → Dec (digit_in (drop i s) < digit_in (drop j s)) → ⊥
        at same (yes l) =
            differ w.n (drop i s) (drop j s) w.leads_first l (w.first ∙ same ∙ sym w.second)
        at same (no l) =
            differ w.n (drop j s) (drop i s) w.leads_second (omega arith)
            (w.second ∙ sym same ∙ sym w.first)

    -- of the first nothing is left
    pub in_step_done : (r : Option ℕ) {t : Bool} → digit_in (drop i s) ≡ 10
        → MatchOption r (digit_in (drop j s) ≡ 10) (λ x. (x < 10) × (x ≡ digit_in (drop j s))) → is_some r ≡ not t
        → t ≡ eqb (number_in (drop a s)) (number_in (drop b s))
    in_step_done None {t = true} h m e = in_step_same h m
    in_step_done None {t = false} h m e = cc
    in_step_done (Some x) {t = true} h m e = cc
    in_step_done (Some x) {t = false} h m e = in_step_other (λ f. omega (arith, m))
