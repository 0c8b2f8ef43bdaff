-- The digits that a text begins with.
use Rattle.std.specs.Prelude.{ℕ, ◌-◌, ◌<◌, ◌≡◌, List, [], ◌∷◌, drop}
use Rattle.columns.specs.Test.{pick}
use Rattle.model.specs.Form.{is_digit, number_in}

-- the value of the first digit, or 10 where none stands
unfoldable pub digit_in : List ℕ → ℕ
digit_in [] = 10
digit_in (x ∷ l) = pick (is_digit x) (x - 48) 10

-- at r stands the number at p without its leading zeros
pub record BehindZeros (s : List ℕ) (p r : ℕ) : Type 0 where
  pub same : number_in (drop r s) ≡ number_in (drop p s)
  pub first : 0 < digit_in (drop r s)
