-- An array filled in one run, one element after the other.
use Rattle.std.specs.Prelude.{ℕ, ◌≤◌, ◌<◌, ◌≡◌, List, length, get_or}

-- the elements from `start` to `end` are as f says of their places, and the others are as before
pub record Filled (start end : ℕ) (f : ℕ → ℕ) (before after : List ℕ) : Type 0 where
  pub same_length : length after ≡ length before
  pub inside : (i : ℕ) → start ≤ i → i < end → get_or after i 0 ≡ f i
  pub below : (i : ℕ) → i < start → get_or after i 0 ≡ get_or before i 0
  pub past : (i : ℕ) → end ≤ i → get_or after i 0 ≡ get_or before i 0
