-- White space, digits and quotes are other bytes than those that the parts of a text begin and end with.
use Prim.Native.Nat.{ℕ, ◌≤◌}
use mathlib.Core.Path.{◌≡◌, sym, subst}
use mathlib.Core.Logic.{⊎_elim}
use mathlib.Core.Bool.{Bool, false, ◌||◌, not}
use mathlib.Core.List.{List, [], ◌∷◌, ◌++◌}
use native.Mathlib.Omega.{arith}
use lib.Dec.{T, T_not, eqb, eqb→eq}
use lib.ListN.{get_or}
use Rattle.model.specs.Xml.{is_white, White, is_quote}
use Rattle.model.specs.Form.{is_digit}
use Rattle.model.proofs.Truth.{is_false, or_is}
use Rattle.numerals.specs.Digits.{Digits}
use Rattle.numerals.specs.Tagged.{Without}
use Rattle.numerals.proofs.Decimal.{digit_is}

-- a byte of a kind is not one that is not of it
pub unlike : (kind : ℕ → Bool) (x y : ℕ) → T (kind x) → T (not (kind y)) → eqb x y ≡ false
unlike kind x y t n = is_false (λ e. T_not (kind y) n (subst (λ (z : ℕ). T (kind z)) (eqb→eq x y e) t))

-- so white space and digits are without a byte that is neither
pub white_without : (y : ℕ) → T (not (is_white y)) → (w : List ℕ) → White w → Without y w
white_without y n [] h = tt
white_without y n (x ∷ w) h = (unlike is_white x y h.0 n, white_without y n w h.1)

pub digits_without : (y : ℕ) → T (not (is_digit y)) → (w : List ℕ) → Digits w → Without y w
digits_without y n [] h = tt
digits_without y n (x ∷ w) h = (unlike is_digit x y h.0 n, digits_without y n w h.1)

-- white space and quotes are no digits: they are below them
or_low : (x y : ℕ) (b : Bool) → y ≤ 47 → (T b → x ≤ 47) → T (b || eqb x y) → x ≤ 47
or_low x y b h f t =
    ⊎_elim f (λ e. subst (λ (z : ℕ). z ≤ 47) (sym (eqb→eq x y e)) h) ((or_is b (eqb x y)).0 t)

low_is : (x y : ℕ) → y ≤ 47 → T (eqb x y) → x ≤ 47
low_is x y h t = or_low x y false h (λ (n : ⊥). absurd n) t

no_digit : (x : ℕ) → x ≤ 47 → is_digit x ≡ false
no_digit x h = is_false (λ t. let b = digit_is x t in omega arith)

pub white_no_digit : (x : ℕ) → T (is_white x) → is_digit x ≡ false
white_no_digit x t =
    no_digit x
    (or_low x 13 (eqb x 32 || eqb x 9 || eqb x 10) (omega arith)
    (or_low x 10 (eqb x 32 || eqb x 9) (omega arith)
    (or_low x 9 (eqb x 32) (omega arith) (low_is x 32 (omega arith)))) t)

pub quote_no_digit : (x : ℕ) → T (is_quote x) → is_digit x ≡ false
quote_no_digit x t = no_digit x (or_low x 39 (eqb x 34) (omega arith) (low_is x 34 (omega arith)) t)

-- behind white space no digit follows where none follows without it
pub white_ahead : (w rest : List ℕ) → White w → is_digit (get_or rest 0 0) ≡ false
    → is_digit (get_or (w ++ rest) 0 0) ≡ false
white_ahead [] rest h e = e
white_ahead (x ∷ w) rest h e = white_no_digit x h.0
