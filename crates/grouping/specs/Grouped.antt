-- Rows grouped by one word each: what `group` promises.
use Rattle.std.specs.Prelude.{ℕ, ◌<◌, ◌≡◌, ◌↔◌, Bool, true, List, length, get_or}
use Rattle.model.specs.Bounds.{row_bound}
use Rattle.leaders.specs.Keys.{first_same}

-- each row before the end has its leader, and r is true exactly if all of them lead themselves
pub record Grouped (ws : List ℕ) (end : ℕ) (out : List ℕ) (r : Bool) : Type 0 where
  pub long : length out ≡ row_bound
  pub leaders : (q : ℕ) → q < end → get_or out q 0 ≡ first_same ws q
  pub alone : (r ≡ true) ↔ ((q : ℕ) → q < end → first_same ws q ≡ q)
