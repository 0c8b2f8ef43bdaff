-- What is shown of every number below one, number by number: the form of each loop over rows or members. The library
-- has it with the predicate and the number written out; here both are found from the goal.
use Prim.Native.Nat.{ℕ, ◌+◌, ◌<◌}
use borrow.Author.Count as count

pub below_more : {P : ℕ → Type 0} {m : ℕ} → ((q : ℕ) → q < m → P q) → P m → (q : ℕ) → q < m + 1 → P q
below_more {P} {m} = count.below_more P m
