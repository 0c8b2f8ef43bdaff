-- Sets of columns marked on a plane. Nothing here knows of a catalogue.
use Rattle.std.specs.Prelude.{ℕ, ◌-◌, ◌^◌, ◌≤◌, ◌≡◌, ◌↔◌, ◌⊎◌, List, length}
use Rattle.columns.specs.Bound.{column_bound}
use Rattle.planes.specs.Bits.{plane_bit}

-- a plane has room for the sets of m columns, which fill at least one word
pub record RoomFor (m : ℕ) (plane : List ℕ) : Type 0 where
  pub word : 5 ≤ m
  pub few : m ≤ column_bound
  pub fits : 2 ^ (m - 5) ≤ length plane

-- the wanted sets are marked too, and no others
pub record Marked (Wanted : ℕ → Type 0) (before after : List ℕ) : Type 0 where
  pub marks : (y : ℕ) → (plane_bit after y ≡ 1) ↔ ((plane_bit before y ≡ 1) ⊎ Wanted y)
