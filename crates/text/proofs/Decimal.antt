-- A number's digits, as std spells them, are its decimal text.
use Rattle.std.proofs.Common.{ℕ, zero, suc, ◌+◌, ◌/◌, ◌%◌, ◌^◌, ◌<◌, ◌≤◌, ◌≡◌, [], ◌∷◌, ◌++◌, ap, ◌∙◌, arith, ◌-◌}
use Rattle.std.proofs.Common.{eq-zero-or-pos, inl, inr}
use Rattle.std.specs.Fmt.{decimal as spelt}
use Rattle.std.proofs.lemmas.Fmt.{decimal_digit, decimal_step}
use Rattle.columns.proofs.Test.{is_if_lt, is_if_not_lt}
use Rattle.model.specs.Text.{decimal, decimal_in}

spelt_in : (fuel n : ℕ) → n < fuel → n < 2 ^ 64 → spelt n ≡ decimal_in fuel n
unfolding decimal_in
spelt_in zero n f w = absurd (omega arith)
spelt_in (suc fuel) n f w =
    elim (eq-zero-or-pos (10 - n)) [
      | inl none ↦
          let high : 10 ≤ n = omega arith in
          is_if_not_lt ((48 + n) ∷ []) high
          (decimal_step n high w ∙ ap (λ l. l ++ ((48 + n % 10) ∷ [])) (spelt_in fuel (n / 10) (omega arith) (omega arith)))
      | inr some ↦
          let low : n < 10 = omega arith in
          is_if_lt (decimal_in fuel (n / 10) ++ ((48 + n % 10) ∷ [])) low (decimal_digit n low)
    ]

-- so for each number of 64 bits
pub spelt_is : (n : ℕ) → n < 2 ^ 64 → spelt n ≡ decimal n
unfolding decimal
spelt_is n w = spelt_in (suc n) n (omega arith) w
