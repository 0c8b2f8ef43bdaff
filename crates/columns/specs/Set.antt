-- A set of columns is a number: column k is bit k ("The catalogue file"), and a column at or above the bound is no
-- member ("Order and places"). So several numbers have the same members, and what a set answers is told by its
-- members alone.
use Rattle.std.specs.Prelude.{ℕ, zero, suc, ◌+◌, ◌-◌, ◌*◌, ◌/◌, ◌%◌, ◌^◌, Bool, not, ◌&&◌, ltb, eqb}
use Rattle.std.specs.Prelude.{Option, Some, None}
use Rattle.std.specs.Int.Count.{ones}
use Rattle.std.specs.Int.Bits.{bit_and}
use Rattle.columns.specs.Bound.{column_bound}
use Rattle.columns.specs.Test.{if_le, pick}
use Rattle.columns.specs.declared.ColumnSet.{ColumnSet}

-- bit k of the number x: 1 or 0
abbrev pub bit : ℕ → ℕ → ℕ
bit x k = x / 2 ^ k % 2

-- is column k a member? A column at or above the bound is none
unfoldable pub member_of : ℕ → ℕ → Bool
member_of x k = ltb k column_bound && eqb (bit x k) 1

-- the numbers below n that pass a test, as a set; and how many they are
unfoldable pub set_below : ℕ → (ℕ → Bool) → ℕ
set_below zero f = 0
set_below (suc n) f = set_below n f + pick (f n) (2 ^ n) 0

unfoldable pub count_below : ℕ → (ℕ → Bool) → ℕ
count_below zero f = 0
count_below (suc n) f = count_below n f + pick (f n) 1 0

-- the members of x alone, as a number: a set's own number, without the bits at or above the bound
unfoldable pub members_of : ℕ → ℕ
members_of x = set_below column_bound (member_of x)

-- how many members
unfoldable pub member_count : ℕ → ℕ
member_count x = count_below column_bound (member_of x)

-- is every member of x a member of y? Then no column is a member of x and not of y
unfoldable pub subset_of : ℕ → ℕ → Bool
subset_of x y = eqb (count_below column_bound (λ k. member_of x k && not (member_of y k))) 0

-- the set x without column k
unfoldable pub without_of : ℕ → ℕ → ℕ
without_of x k = x - bit x k * 2 ^ k

-- the same of numbers whose bits are all members: how many bits are 1, and is every bit of x a bit of y? The bits of
-- both are then those of x
abbrev pub size_of : ℕ → ℕ
size_of x = ones x

unfoldable pub within_of : ℕ → ℕ → Bool
within_of x y = eqb (bit_and x y) x

abbrev pub set_of : ℕ → ColumnSet
set_of x = record { bits = x }

-- the full set of n columns, 'none' for n over the bound
unfoldable pub full_of : ℕ → Option ColumnSet
full_of n = if_le n column_bound (Some (set_of (2 ^ n - 1))) None
