-- The answer of `partition::lead_by_first`.
use mathlib.Core.Path.{◌≡◌, refl, ◌∙◌}
use native.Mathlib.Omega.{arith}
use Rattle.std.proofs.Common.{◌++◌, length, drop, length-append, length-drop}
use Rattle.std.proofs.lemmas.List.{get_or_append_left, length-take-le}
use Rattle.model.specs.Bounds.{row_bound}
use Rattle.partition.proofs.Leading.{led_begun}
use Rattle.partition.proofs.lead_by_first.Goals as goal

pub returns : goal.returns
returns c = λ keys x.
    let l = length-take-le c.args.end c.args.leaders.now (omega arith) in
    let d = length-drop c.args.end c.args.leaders.now in
    let e : length (c.fill.new.self ++ drop c.args.end c.args.leaders.now) ≡ row_bound =
    omega (arith, l, d, c.fill.ensures.len, length-append c.fill.new.self (drop c.args.end c.args.leaders.now)) in
    led_begun keys c.args.end x _ e (λ q h.
    get_or_append_left c.fill.new.self _ 0 q (omega (arith, l, c.fill.ensures.len))
    ∙ c.fill.ensures.clones q 0 (omega (arith, l)) refl)
