-- When the entries of a list that are for a target are sound, step by step (document 02, b, d and e).
use Rattle.std.specs.Prelude.{ℕ, ◌≡◌, List}
use Rattle.model.specs.View.{View, Holds, Backed}
use Rattle.model.specs.Contains.{EntryFor}
use Rattle.model.specs.Verify.{NoOther, NoKey, SoundEntry}
use Rattle.model.specs.declared.Entry.{Entry}
use Rattle.evidence.specs.Lists.{Each}
use Rattle.evidence.specs.Sides.{SidesFit}

-- the target allows the sides of an entry, if it is for the target
abbrev pub FitsFor : ℕ → ℕ → ℕ → Entry → Type 0
FitsFor n low target e = e.target ≡ target → SidesFit n low e.left e.right

-- the entries for a target and a right are backed and hold in a view, and contain no other, nor a listed key if the
-- right is a column
abbrev pub SoundIn : View → List Entry → ℕ → ℕ → Type 0
SoundIn v es target right =
    Each (λ e. EntryFor target right e
    → Backed v e.left × Holds v e.left right × NoOther es e × NoKey es e) es

-- the entries for a target are sound
abbrev pub SoundFor : List ℕ → ℕ → List Entry → Type 0
SoundFor cat target es = Each (λ e. e.target ≡ target → SoundEntry cat es e) es
