-- The sides that a target allows, by the number of its visible columns and of those that it inherits.
use Rattle.std.specs.Prelude.{ℕ, ◌^◌, ◌≤◌, ◌<◌, ◌≡◌, ◌⊎◌, List}
use Rattle.model.specs.Bounds.{row}
use Rattle.model.specs.declared.Entry.{Entry}
use Rattle.model.specs.declared.Evidence.{Evidence}
use Rattle.evidence.specs.Lists.{Each}

-- the set has no bit at or above the number of visible columns, and the right is the row or an own column
abbrev pub SidesFit : ℕ → ℕ → ℕ → ℕ → Type 0
SidesFit n low set right = (set < 2 ^ n) × ((right ≡ row) ⊎ ((low ≤ right) × (right < n)))

-- the entries of a list that are for a target have lefts of n columns, and the records sets
abbrev pub LeftsWithin : ℕ → ℕ → List Entry → Type 0
LeftsWithin n target es = Each (λ e. e.target ≡ target → e.left < 2 ^ n) es

abbrev pub SetsWithin : ℕ → ℕ → List Evidence → Type 0
SetsWithin n target rs = Each (λ e. e.target ≡ target → e.set < 2 ^ n) rs
