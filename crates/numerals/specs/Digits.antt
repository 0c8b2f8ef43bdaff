-- Words of digits.
use Rattle.std.specs.Prelude.{ℕ, List, [], ◌∷◌, T}
use Rattle.model.specs.Form.{is_digit}

-- each byte is a digit
abbrev pub Digits : List ℕ → Type 0
Digits [] = Unit {0}
Digits (x ∷ l) = T (is_digit x) × Digits l
