-- The answers of `attributes::same_number`.
use mathlib.Core.Path.{◌≡◌, sym, ◌∙◌}
use native.Mathlib.Omega.{arith}
use lib.ListN.{drop}
use Rattle.attributes.specs.Digits.{digit_in}
use Rattle.attributes.proofs.Digits.{digit_within}
use Rattle.attributes.proofs.Same.{same_digit, other_digit, in_step_begun, in_step_more, in_step_other}
use Rattle.attributes.proofs.Same.{in_step_done}
use Rattle.attributes.proofs.same_number.Goals as goal
use Rattle.attributes.proofs.same_number.Goals.{Else-ne}

pub loop-digit-init : goal.loop-digit-init
loop-digit-init c = in_step_begun _ _ _ c.behind_zeros-i.ensures c.behind_zeros-j.ensures

pub returns-then-ne : goal.returns-then-ne
returns-then-ne c =
    let n = other_digit _ c.digit_at-in-Some.ensures c.in-Some.ensures.0 (sym c.ne.ensures ∙ c.if-ne.true) in
    in_step_other _ _ _ c.loop-digit.invariant (λ e. n (c.in-Some.ensures.1 ∙ e))

-- the same digit stands at both
same : (c : Else-ne) → c.in-Some.digit ≡ digit_in (drop c.loop-digit.j c.args.s.now)
same c = same_digit _ c.digit_at-in-Some.ensures (sym c.ne.ensures ∙ c.if-ne.false)

pub overflow_add-i : goal.overflow_add-i
overflow_add-i c =
    omega (arith, digit_within c.args.s.now c.loop-digit.i (omega (arith, c.in-Some.ensures)))

pub overflow_add-j : goal.overflow_add-j
overflow_add-j c =
    omega (
      arith,
      digit_within c.args.s.now c.loop-digit.j
          (omega (arith, c.in-Some.ensures, same (goal.at.overflow_add-j c).Else-ne)),
    )

pub loop-digit-smaller : goal.loop-digit-smaller
loop-digit-smaller c =
    omega (arith, digit_within c.args.s.now c.loop-digit.i (omega (arith, c.in-Some.ensures)))

pub loop-digit-preserved : goal.loop-digit-preserved
loop-digit-preserved c =
    in_step_more _ _ _ c.loop-digit.invariant c.in-Some.ensures.0 c.in-Some.ensures.1
    (same (goal.at.loop-digit-preserved c).Else-ne)

pub returns : goal.returns
returns c =
    in_step_done _ _ _ c.loop-digit.invariant _ c.in_default.ensures c.digit_at-2.ensures c.is_none.ensures
