-- The first number that passes a test.
use Rattle.std.specs.Prelude.{ℕ, zero, suc, Bool}
use Rattle.columns.specs.Test.{pick}

-- the first number from i on that passes a test, or the one behind the n that are tried
unfoldable pub first_from : (ℕ → Bool) → ℕ → ℕ → ℕ
first_from test zero i = i
first_from test (suc n) i = pick (test i) i (first_from test n (suc i))
