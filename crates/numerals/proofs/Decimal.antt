-- A number and its decimal digits: the digits of a number give it back, and digits without leading zeros are those of
-- the number that they give.
use Prim.Native.Nat.{ℕ, zero, suc, ◌+◌, ◌-◌, ◌*◌, ◌/◌, ◌%◌, ◌≤◌, ◌<◌}
use mathlib.Core.Path.{◌≡◌, refl, sym, ap, ap₂, subst, ◌∙◌}
use mathlib.Core.Logic.{⊎_elim}
use mathlib.Core.Bool.{Bool, false}
use mathlib.Core.List.{List, [], ◌∷◌, ◌++◌, append_assoc, append-nil}
use native.Mathlib.Decide.{ℕ_discrete}
use native.Mathlib.Omega.{arith}
use lib.Dec.{T, leb, leb→le, le→leb}
use lib.ListN.{get_or}
use Rattle.columns.specs.Test.{pick}
use Rattle.columns.proofs.Test.{if_lt_yes, if_lt_no}
use Rattle.model.specs.Text.{decimal, decimal_in}
use Rattle.model.specs.Form.{is_digit, number_from, number_in}
use Rattle.model.proofs.Truth.{is_true, and_is}
use Rattle.model.proofs.Calls.{le_or_lt}
use Rattle.numerals.specs.Digits.{Digits}

-- a digit is one of 48 to 57
pub digit_is : (x : ℕ) → T (is_digit x) → (48 ≤ x) × (x ≤ 57)
digit_is x t =
    let h = (and_is (leb 48 x) (leb x 57)).0 t in
    (leb→le 48 x h.0, leb→le x 57 h.1)

is_digit_lem : (n : ℕ) → n < 10 → T (is_digit (48 + n))
is_digit_lem n h =
    (and_is (leb 48 (48 + n)) (leb (48 + n) 57)).1 (le→leb 48 (48 + n) (omega arith), le→leb (48 + n) 57 (omega arith))

-- the fuel does not matter where it is more than the number
fuel_enough : (f g n : ℕ) → n < f → n < g → decimal_in f n ≡ decimal_in g n
unfolding decimal_in
fuel_enough zero g n h k = absurd (omega arith)
fuel_enough (suc f) zero n h k = absurd (omega arith)
fuel_enough (suc f) (suc g) n h k = ⊎_elim (more (fuel_enough f g (n / 10))) one (le_or_lt 10 n)
  where
    one : n < 10 → decimal_in (suc f) n ≡ decimal_in (suc g) n
    one l =
        if_lt_yes (decimal_in f (n / 10) ++ ((48 + n % 10) ∷ [])) l
        ∙ sym (if_lt_yes (decimal_in g (n / 10) ++ ((48 + n % 10) ∷ [])) l)

    more : (n / 10 < f → n / 10 < g → decimal_in f (n / 10) ≡ decimal_in g (n / 10)) → 10 ≤ n
        → decimal_in (suc f) n ≡ decimal_in (suc g) n
    more ih l =
        if_lt_no ((48 + n) ∷ []) l
        ∙ (ap (λ (w : List ℕ). w ++ ((48 + n % 10) ∷ [])) (ih (omega arith) (omega arith))
        ∙ sym (if_lt_no ((48 + n) ∷ []) l))

-- one digit below 10; from 10 on the digits of the tenth, and the last one
decimal_low : (n : ℕ) → n < 10 → decimal n ≡ (48 + n) ∷ []
unfolding decimal decimal_in
decimal_low n l = if_lt_yes (decimal_in n (n / 10) ++ ((48 + n % 10) ∷ [])) l

decimal_high : (n : ℕ) → 10 ≤ n → decimal n ≡ decimal (n / 10) ++ ((48 + n % 10) ∷ [])
unfolding decimal decimal_in
decimal_high n l =
    if_lt_no ((48 + n) ∷ []) l
    ∙ ap (λ (w : List ℕ). w ++ ((48 + n % 10) ∷ []))
    (fuel_enough n (suc (n / 10)) (n / 10) (omega arith) (omega arith))

-- so what is shown below 10, and from 10 on where it holds for the tenth, holds for all numbers
by_tenths : (P : ℕ → Type 0) → ((n : ℕ) → n < 10 → P n) → ((n : ℕ) → 10 ≤ n → P (n / 10) → P n) → (n : ℕ) → P n
by_tenths P low high n = up_to (suc n) n (omega arith)
  where
    up_to : (b m : ℕ) → m < b → P m
    up_to zero m h = absurd (omega arith)
    up_to (suc b) m h = ⊎_elim (λ l. high m l (up_to b (m / 10) (omega arith))) (low m) (le_or_lt 10 m)

digits_append : (w v : List ℕ) → Digits w → Digits v → Digits (w ++ v)
digits_append [] v d e = e
digits_append (x ∷ w) v d e = (d.0, digits_append w v d.1 e)

pub decimal_digits : (n : ℕ) → Digits (decimal n)
decimal_digits =
    by_tenths (λ n. Digits (decimal n))
    (λ n l. subst Digits (sym (decimal_low n l)) (is_digit_lem n l, tt))
    (λ n l ih. subst Digits (sym (decimal_high n l))
    (digits_append (decimal (n / 10)) ((48 + n % 10) ∷ []) ih (is_digit_lem (n % 10) (omega arith), tt)))

-- the first digit, and that it is not 0 unless the number is
begins : (n : ℕ) → (x : ℕ) × (l : List ℕ) × (decimal n ≡ x ∷ l) × (0 < n → 48 < x)
begins =
    by_tenths (λ n. (x : ℕ) × (l : List ℕ) × (decimal n ≡ x ∷ l) × (0 < n → 48 < x))
    (λ n l. (48 + n, [], decimal_low n l, λ p. omega arith))
    (λ n l ih. (
      ih.0,
      ih.1 ++ ((48 + n % 10) ∷ []),
      decimal_high n l ∙ ap (λ (w : List ℕ). w ++ ((48 + n % 10) ∷ [])) ih.2,
      λ p. ih.3 (omega arith),
    ))

pub decimal_some : (n : ℕ) → (x : ℕ) × (l : List ℕ) × (decimal n ≡ x ∷ l)
decimal_some n = let b = begins n in (b.0, b.1, b.2)

-- no 0 before other digits
pub decimal_leads : (n x : ℕ) (l : List ℕ) → decimal n ≡ x ∷ l → x ≡ 48 → l ≡ []
decimal_leads zero x l e z = let f = decimal_low 0 (omega arith) in cc
decimal_leads (suc n) x l e z =
    let b = begins (suc n) in
    let f : decimal (suc n) ≡ b.0 ∷ b.1 = b.2 in
    let s : b.0 ≡ x = cc in
    let h = b.3 (omega arith) in
    absurd (omega arith)

-- a digit more, and no digit
number_more : (m x : ℕ) (l : List ℕ) → T (is_digit x) → number_from m (x ∷ l) ≡ number_from (10 * m + (x - 48)) l
unfolding number_from
number_more m x l t = ap (λ (b : Bool). pick b (number_from (10 * m + (x - 48)) l) m) (is_true {b = is_digit x} t)

number_done : (m : ℕ) (l : List ℕ) → is_digit (get_or l 0 0) ≡ false → number_from m l ≡ m
unfolding number_from
number_done m [] e = refl
number_done m (x ∷ l) e = ap (λ (b : Bool). pick b (number_from (10 * m + (x - 48)) l) m) e

number_append : (m : ℕ) (w rest : List ℕ) → Digits w → number_from m (w ++ rest) ≡ number_from (number_from m w) rest
unfolding number_from
number_append m [] rest d = refl
number_append m (x ∷ w) rest d =
    number_more m x (w ++ rest) d.0
    ∙ (number_append (10 * m + (x - 48)) w rest d.1
    ∙ ap (λ (k : ℕ). number_from k rest) (sym (number_more m x w d.0)))

-- the digits of a number give it back
number_back : (n : ℕ) → number_in (decimal n) ≡ n
unfolding number_from
number_back =
    by_tenths (λ n. number_in (decimal n) ≡ n)
    (λ n l. ap number_in (decimal_low n l) ∙ (number_more 0 (48 + n) [] (is_digit_lem n l) ∙ omega arith))
    (λ n l ih. ap number_in (decimal_high n l)
    ∙ (number_append 0 (decimal (n / 10)) ((48 + n % 10) ∷ []) (decimal_digits (n / 10))
    ∙ (ap (λ (k : ℕ). number_from k ((48 + n % 10) ∷ [])) ih
    ∙ (number_more (n / 10) (48 + n % 10) [] (is_digit_lem (n % 10) (omega arith)) ∙ omega arith))))

pub number_decimal : (n : ℕ) (rest : List ℕ) → is_digit (get_or rest 0 0) ≡ false → number_in (decimal n ++ rest) ≡ n
number_decimal n rest e =
    number_append 0 (decimal n) rest (decimal_digits n)
    ∙ (number_done (number_in (decimal n)) rest e ∙ number_back n)

-- digits behind those of a number that is not 0
decimal_on : (m : ℕ) (l : List ℕ) → 0 < m → Digits l → decimal (number_from m l) ≡ decimal m ++ l
unfolding number_from
decimal_on m [] p d = sym (append-nil (decimal m))
decimal_on m (x ∷ l) p d =
    let b = digit_is x d.0 in
    ap decimal (number_more m x l d.0)
    ∙ (decimal_on (10 * m + (x - 48)) l (omega arith) d.1
    ∙ (ap (λ (w : List ℕ). w ++ l)
    (decimal_high (10 * m + (x - 48)) (omega arith)
    ∙ ap₂ (λ (k y : ℕ). decimal k ++ (y ∷ [])) (omega arith) (omega arith))
    ∙ append_assoc (decimal m) (x ∷ []) l))

pub decimal_number : (x : ℕ) (l : List ℕ) → Digits (x ∷ l) → (x ≡ 48 → l ≡ []) → decimal (number_in (x ∷ l)) ≡ x ∷ l
unfolding number_from
decimal_number x l d z =
    let b = digit_is x d.0 in
    ap decimal (number_more 0 x l d.0) ∙ at b (ℕ_discrete x 48)
  where
    at : (48 ≤ x) × (x ≤ 57) → Dec (x ≡ 48) → decimal (number_from (10 * 0 + (x - 48)) l) ≡ x ∷ l
    at b (yes e) =
        ap (λ (w : List ℕ). decimal (number_from (10 * 0 + (x - 48)) w)) (z e)
        ∙ (decimal_low (10 * 0 + (x - 48)) (omega arith)
        ∙ ap₂ (λ (y : ℕ) (w : List ℕ). y ∷ w) (omega arith) (sym (z e)))
    at b (no n) =
        decimal_on (10 * 0 + (x - 48)) l (omega arith) d.1
        ∙ ap (λ (w : List ℕ). w ++ l)
        (decimal_low (10 * 0 + (x - 48)) (omega arith) ∙ ap (λ (y : ℕ). y ∷ []) (omega arith))
