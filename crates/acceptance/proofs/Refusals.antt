-- The numbers that the check by evidence refuses by, and those that it does not.
use Prim.Native.Nat.{ℕ, ◌≤◌}
use mathlib.Core.Logic.{inl, inr}
use native.Mathlib.Omega.{arith}
use Rattle.acceptance.specs.Grounds.{VerifyRefusal, VerifyRefusals}

range : (n : ℕ) → VerifyRefusal n → (1 ≤ n) × (n ≤ 19)
range n (inl e) = (e.0, omega (arith, e.1))
range n (inr (inl e)) = (omega arith, omega arith)
range n (inr (inr (inl e))) = (omega arith, omega arith)
range n (inr (inr (inr (inl e)))) = (omega arith, omega arith)
range n (inr (inr (inr (inr (inl e))))) = (omega arith, omega arith)
range n (inr (inr (inr (inr (inr e))))) = (omega arith, omega arith)

other_calls_lem : (n : ℕ) → VerifyRefusal n → 8 ≤ n → 14 ≤ n
other_calls_lem n (inl e) l = absurd (omega (arith, e.1))
other_calls_lem n (inr (inl e)) l = omega arith
other_calls_lem n (inr (inr (inl e))) l = omega arith
other_calls_lem n (inr (inr (inr (inl e)))) l = omega arith
other_calls_lem n (inr (inr (inr (inr (inl e))))) l = omega arith
other_calls_lem n (inr (inr (inr (inr (inr e))))) l = omega arith

output : VerifyRefusal 16 → ⊥
output (inl e) = absurd (omega (arith, e.1))
output (inr (inl e)) = absurd (omega arith)
output (inr (inr (inl e))) = absurd (omega arith)
output (inr (inr (inr (inl e)))) = absurd (omega arith)
output (inr (inr (inr (inr (inl e))))) = absurd (omega arith)
output (inr (inr (inr (inr (inr e))))) = absurd (omega arith)

pub verify_refusals : VerifyRefusals
verify_refusals = record { range = range; other_calls = other_calls_lem; output = output }
