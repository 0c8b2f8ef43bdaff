-- The first bytes of some, and what a writer holds after them.
use Rattle.std.proofs.Common.{ℕ, ◌+◌, ◌≤◌, ◌<◌, ◌≡◌, List, [], ◌++◌, length, take, drop, ap, sym, ◌∙◌, arith}
use Rattle.std.proofs.Common.{length-drop, ◌-◌}
use Rattle.std.proofs.Math.Seq.{take-add, take_all}
use Rattle.columns.proofs.Test.{if_le_yes, if_le_no}
use Rattle.text.specs.Written.{front}

-- all of the others
rest_is : (m : ℕ) (l : List ℕ) → take (length l - m) (drop m l) ≡ drop m l
rest_is m l = take_all (length l - m) (drop m l) (omega (arith, length-drop m l))

-- some of the first bytes, and then some of the others
pub take_on : (m n : ℕ) (l : List ℕ) → take m l ++ take n (take (length l - m) (drop m l)) ≡ take (m + n) l
take_on m n l = ap (λ r. take m l ++ take n r) (rest_is m l) ∙ sym (take-add m n l)

pub within_on : (m n : ℕ) (l : List ℕ) → m ≤ length l → n ≤ length (take (length l - m) (drop m l)) → m + n ≤ length l
within_on m n l h k = omega (arith, ap length (rest_is m l), length-drop m l)

pub is_front : (n : ℕ) (l : List ℕ) → n ≤ length l → take n l ≡ front n l
is_front n l h = sym (if_le_yes [] h)

pub no_front : (n : ℕ) (l : List ℕ) → length l < n → [] ≡ front n l
no_front n l h = sym (if_le_no (take n l) h)
