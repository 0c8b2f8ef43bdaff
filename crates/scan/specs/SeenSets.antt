-- Which agree sets occur, as a flag for each, and the words written from the flags.
use Rattle.std.specs.Prelude.{ℕ, ◌^◌, ◌≤◌, ◌<◌, ◌≡◌, ◌⊎◌, ◌↔◌, Bool, true, false, List, get_or, length}
use Rattle.columns.specs.Bound.{column_bound}
use Rattle.columns.specs.Test.{pick}
use Rattle.table.specs.Words.{word}
use Rattle.table.specs.Broken.{Occurs, broken_by}
use Rattle.leaders.specs.Keys.{key_view}

-- a set stands in a line, from one place on to before another
abbrev pub InLine : List ℕ → ℕ → ℕ → ℕ → Type 0
InLine line from end s = (q : ℕ) × (from ≤ q) × (q < end) × (word line q ≡ s)

-- is a set noted?
abbrev pub seen_at : List Bool → ℕ → Bool
seen_at seen s = get_or seen s false

-- one set more is noted
pub record SetNoted (s : ℕ) (before after : List Bool) : Type 0 where
  pub same_length : length after ≡ length before
  pub noted : (t : ℕ) → (seen_at after t ≡ true) ↔ ((seen_at before t ≡ true) ⊎ (t ≡ s))

-- the sets that stand in a part of a line are noted
pub record LineNoted (line : List ℕ) (from end : ℕ) (before after : List Bool) : Type 0 where
  pub same_length : length after ≡ length before
  pub noted : (s : ℕ) → (seen_at after s ≡ true) ↔ ((seen_at before s ≡ true) ⊎ InLine line from end s)

-- flags that are all false, one for each agree set; and flags that say which agree sets occur
pub record Blank (seen : List Bool) : Type 0 where
  pub long : length seen ≡ 2 ^ column_bound
  pub none : (s : ℕ) → seen_at seen s ≡ false

pub record SeenSets (keys : List ℕ) (n end : ℕ) (seen : List Bool) : Type 0 where
  pub occurs : (s : ℕ) → (seen_at seen s ≡ true) ↔ Occurs (key_view keys n end) s

-- what the agree set s breaks, of n members, if it is seen
abbrev pub broken_word : List Bool → ℕ → ℕ → ℕ
broken_word seen n s = pick (seen_at seen s) (broken_by n s) 0
