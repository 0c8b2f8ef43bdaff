-- A left side has no more members than there are columns.
use Prim.Native.Nat.{ℕ, ◌≤◌}
use native.Mathlib.Omega.{arith}
use lib.Count.{ones-le}
use Rattle.columns.specs.Bound.{column_bound}
use Rattle.columns.specs.Set.{members_of, member_count}
use Rattle.columns.proofs.Membership.{members_lt, size_members}

pub members_few : (x : ℕ) → member_count x ≤ column_bound
members_few x = omega (arith, size_members x, ones-le column_bound (members_of x) (members_lt x))
