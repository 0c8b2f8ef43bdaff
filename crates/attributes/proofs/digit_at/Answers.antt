-- `attributes::digit_at` meets its contract: a digit, and another byte.
use Rattle.std.proofs.Common.{inl, inr}
use native.Mathlib.Omega.{arith}
use Rattle.attributes.proofs.Digits.{digit_low, digit_high, digit_is}
use Rattle.attributes.proofs.digit_at.Goals as goal

pub returns-then-is_ascii_digit : goal.returns-then-is_ascii_digit
returns-then-is_ascii_digit c =
    let h = c.if-is_ascii_digit.ensures.cases in
    (omega (arith, h), omega (arith, digit_is c.args.s.now c.args.i (omega (arith, h)) (omega (arith, h))))

pub returns : goal.returns
returns c =
    let s = c.args.s.now in
    elim c.if-is_ascii_digit.ensures.cases [
      | inl l ↦ digit_low s c.args.i (omega arith)
      | inr l ↦ digit_high s c.args.i (omega arith)
    ]
