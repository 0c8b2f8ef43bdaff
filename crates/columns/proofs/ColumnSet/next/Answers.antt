-- `columns::ColumnSet::next` meets its contract: the next number of the size, or the first of the next size.
use Rattle.std.specs.Prelude.{Option, Some}
use Prim.Native.Nat.{ℕ, ◌+◌, ◌-◌, ◌^◌, ◌≤◌, ◌<◌}
use mathlib.Core.Path.{◌≡◌, sym, ap, ◌∙◌}
use native.Mathlib.Numerals.{add-one}
use native.Mathlib.Omega.{arith}
use lib.Count.{count_trailing_zeros, ones-le}
use lib.Pow.{pow_pos, pow_mono}
use Rattle.columns.specs.Bound.{column_bound}
use Rattle.columns.specs.Set.{size_of, set_of, members_of}
use Rattle.columns.specs.Order.{next_of}
use Rattle.columns.specs.declared.ColumnSet.{ColumnSet}
use Rattle.columns.proofs.Size.{power_pos}
use Rattle.columns.proofs.Next.{Moved, LastOfSize, moved_by, lowest_le, lowest_lt, last_zero, last_moved}
use Rattle.columns.proofs.Next.{next_over, next_absent, next_of_size, next_of_next_size, next_of_last}
use Rattle.columns.proofs.ColumnSet.next.Lts as lts
use Rattle.columns.proofs.ColumnSet.next.Tie as tie
use Rattle.columns.proofs.ColumnSet.next.Reads as reads
use Rattle.columns.proofs.ColumnSet.next.Goals as goal
use Rattle.columns.proofs.ColumnSet.next.Goals.{then-x-gt0+else-r-end, else-x-gt0}

abbrev Else-end-x : Type 0
Else-end-x = lts.Else2 tie.the-claims reads.Pre reads.Post

abbrev Joined-x-gt0 : Type 0
Joined-x-gt0 = lts.Joined3 tie.the-claims reads.Pre reads.Post

-- the members alone, how many columns, and what is known once that number is below 2^n
abbrev bits : Else-end-x → ℕ
bits c = c.members-x.result

abbrev width : Else-end-x → ℕ
width c = c.args.n

within : (c : Else-end-x) → width c ≤ column_bound
within c = c.if-n-gt-COLUMN_BOUND.false

-- what is next after that number is what the set answers
told : (c : Else-end-x) {r : Option ColumnSet} → next_of (width c) (bits c) ≡ r
    → r ≡ next_of (width c) (members_of c.args.self.bits)
told c e = sym e ∙ ap (next_of (width c)) c.members-x.ensures

below : (c : Else-end-x) → bits c < 2 ^ width c
below c = omega (arith, c.power-end.ensures)

small : (c : Else-end-x) → 2 ^ width c ≤ 2 ^ column_bound
small c = pow_mono (within c)

word : (c : Else-end-x) → bits c < 2 ^ 32
word c = omega (arith, below c, small c)

size_small : (c : Else-end-x) → size_of (bits c) ≤ column_bound
size_small c = omega (arith, ones-le (width c) (bits c) (below c))

-- the lowest run of ones with its lowest bit added
moved : (c : goal.After-power) → Moved (bits c.before.before) (bits c.before.before + c.power.result)
moved c = moved_by 32 _ _ c.if-x-gt0.true (word c.before.before) c.power.ensures

grown : (c : goal.After-power) → bits c.before.before < bits c.before.before + c.power.result
grown c = omega (arith, c.power.ensures, pow_pos (count_trailing_zeros 32 (bits c.before.before)))

inside : (c : goal.Then-r-end) → let d = c.before.before.before in bits d + c.power.result < 2 ^ width d
inside c = omega (arith, c.if-r-end.true, c.power-end.ensures)

-- how many ones go to the end
abbrev run : goal.After-power-low → ℕ
run c =
    let d = c.before.before.before.before in
    size_of (bits d) - size_of (bits d + c.power.result)

-- where no bit is free above, the number is the last of its size
last : (c : Joined-x-gt0) → LastOfSize (width c.before) (bits c.before)
last c =
    let d = c.before in
    elim c.if-x-gt0.branch [
      | then-x-gt0+else-r-end w ↦ last_moved (width d) (bits d) (bits d + w.power.result)
          (moved_by 32 _ _ w.if-x-gt0.true (word d) w.power.ensures)
          (omega (arith, w.if-r-end.false, d.power-end.ensures))
      | else-x-gt0 w ↦ last_zero (width d) (bits d) w.if-x-gt0.false
    ]

pub returns-then-n-gt-COLUMN_BOUND : goal.returns-then-n-gt-COLUMN_BOUND
returns-then-n-gt-COLUMN_BOUND c = sym (next_over _ _ c.if-n-gt-COLUMN_BOUND.true)

pub returns-then-end-x : goal.returns-then-end-x
returns-then-end-x c =
    let d = c in
    sym (next_absent _ _ d.if-n-gt-COLUMN_BOUND.false (omega arith))
    ∙ ap (next_of d.args.n) d.members-x.ensures

pub power-requires : goal.power-requires
power-requires c = lowest_lt 32 _ c.if-x-gt0.true (word c.before)

pub overflow_add-r : goal.overflow_add-r
overflow_add-r c = omega (arith, lowest_le 32 _ c.if-x-gt0.true (word c.before.before), small c.before.before)

pub overflow_sub-s : goal.overflow_sub-s
overflow_sub-s c = (moved c.before).less

pub power-low-requires : goal.power-low-requires
power-low-requires c = let d = c.before.before.before in omega (arith, size_small d)

pub overflow_sub-low : goal.overflow_sub-low
overflow_sub-low c = omega (arith, power_pos _ _ c.power-low.ensures)

pub overflow_add-result : goal.overflow_add-result
overflow_add-result c =
    let d = c.before.before.before.before in
    omega (arith, (moved c.before.before).fits _ (inside c.before), c.power-low.ensures, small d, pow_pos (run c))

pub returns-then-r-end : goal.returns-then-r-end
returns-then-r-end c =
    let e = c.before.before in
    let d = e.before.before in
    let r = bits d + e.power.result in
    ap (λ (p : ℕ). Some (set_of (r + (p - 1)))) c.power-low.ensures
    ∙ told d (next_of_size (width d) (bits d) r (within d) (grown e) (moved e) (inside c.before))

pub overflow_sub-result : goal.overflow_sub-result
overflow_sub-result c = power_pos _ _ c.power-then-s-n.ensures

pub returns-then-s-n : goal.returns-then-s-n
returns-then-s-n c =
    let d = c.before.before.before in
    ap (λ (p : ℕ). Some (set_of (p - 1))) (c.power-then-s-n.ensures ∙ ap (λ (i : ℕ). 2 ^ i) (add-one (size_of (bits d))))
    ∙ told d (next_of_next_size (width d) (bits d) (within d) (below d) (last c.before.before)
    c.if-s-n.true)

pub returns : goal.returns
returns c =
    let d = c.before.before in
    told d (next_of_last (width d) (bits d) (within d) (below d) (last c.before) c.if-s-n.false)
