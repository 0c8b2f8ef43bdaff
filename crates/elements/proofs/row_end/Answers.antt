-- `elements::row_end` meets its contract.
use Prim.Native.Nat.{ℕ, ◌+◌, ◌-◌, ◌≤◌, ◌<◌}
use mathlib.Core.Path.{◌≡◌, refl}
use mathlib.Core.List.{List}
use native.Mathlib.Omega.{arith}
use lib.ListN.{length, take, drop}
use Rattle.model.specs.Form.{tag_at, digits_end, name_of, end_at}
use Rattle.scanner.proofs.Read.{read_at}
use Rattle.elements.proofs.Progress.{tag_on}
use Rattle.elements.proofs.row_end.Goals as goal

-- the name stands in the text
named : (s : List ℕ) (p : ℕ) → (tag_at s p ≡ 0 → ⊥)
    → (p + 2 < digits_end s (p + 2)) × (digits_end s (p + 2) ≤ length s)
named s p h = let t = tag_on s p refl h in (t.0, t.1.0)

pub overflow_add-p : goal.overflow_add-p
overflow_add-p c = omega (arith, named c.args.s.now c.args.p c.requires)

pub overflow_add-p-2 : goal.overflow_add-p-2
overflow_add-p-2 c = omega (arith, named c.args.s.now c.args.p c.requires)

pub slice_bounds-end_at-count : goal.slice_bounds-end_at-count
slice_bounds-end_at-count c = omega (arith, named c.args.s.now c.args.p c.requires)

pub slice_bounds-end_at-start : goal.slice_bounds-end_at-start
slice_bounds-end_at-start c = omega (arith, named c.args.s.now c.args.p c.requires)

pub slice_bounds-end_at-end : goal.slice_bounds-end_at-end
slice_bounds-end_at-end c = omega (arith, named c.args.s.now c.args.p c.requires)

pub returns-clause-place : goal.returns-clause-place
unfolding name_of
returns-clause-place c =
    let a = c.args in
    read_at (λ m. end_at a.s.now (take (m - (a.p + 1)) (drop (a.p + 1) a.s.now)) a.q)
    c.end_at.ensures.place c.digits_end-end.ensures
