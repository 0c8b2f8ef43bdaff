-- Two numbers are alike as sets if every method of a set answers the same for both, in every argument and beside
-- every other set. The methods' contracts are these definitions.
use Rattle.std.specs.Prelude.{ℕ, ◌≡◌}
use Rattle.columns.specs.Set.{member_of, members_of, member_count, subset_of, without_of}
use Rattle.columns.specs.Order.{precedes_of, next_of}

pub record Alike (x y : ℕ) : Type 0 where
  pub member : (k : ℕ) → member_of x k ≡ member_of y k
  pub size : member_count x ≡ member_count y
  pub without : (k : ℕ) → without_of (members_of x) k ≡ without_of (members_of y) k
  pub within : (z : ℕ) → subset_of x z ≡ subset_of y z
  pub around : (z : ℕ) → subset_of z x ≡ subset_of z y
  pub before : (z : ℕ) → precedes_of (members_of x) (members_of z) ≡ precedes_of (members_of y) (members_of z)
  pub behind : (z : ℕ) → precedes_of (members_of z) (members_of x) ≡ precedes_of (members_of z) (members_of y)
  pub next : (n : ℕ) → next_of n (members_of x) ≡ next_of n (members_of y)
