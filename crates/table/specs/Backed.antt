-- Backed left sides by the sets of present members (document 02, d): a row has the cells of the members in its set, and
-- a left side is backed if it lies inside the set of some row. In the words of the table the bit above the row's says
-- which left sides are.
use Rattle.std.specs.Prelude.{ℕ, suc, ◌^◌, ◌<◌, ◌≡◌, ◌↔◌, ◌⊎◌, List}
use Rattle.columns.specs.Set.{bit, set_below}
use Rattle.model.specs.View.{View, Backed}
use Rattle.table.specs.Words.{word}

-- the members whose cells are present in a row
abbrev pub present_set_of : View → ℕ → ℕ
present_set_of v p = set_below v.members (λ k. v.present k p)

-- a set is that of some row
abbrev pub Witnessed : View → ℕ → Type 0
Witnessed v s = (p : ℕ) × (p < v.rows) × (present_set_of v p ≡ s)

-- such sets laid for all rows of a view of n members
pub record PresentSets (v : View) (n end : ℕ) (sets : List ℕ) : Type 0 where
  pub rows : v.rows ≡ end
  pub members : v.members ≡ n
  pub each : (p : ℕ) → p < end → word sets p ≡ present_set_of v p

-- one of the first sets laid
abbrev pub LaidSet : List ℕ → ℕ → ℕ → Type 0
LaidSet sets end s = (q : ℕ) × (q < end) × (word sets q ≡ s)

-- bit b is noted at the sets laid, and no other bit changes
pub record SetsNoted (b : ℕ) (sets : List ℕ) (end : ℕ) (before after : List ℕ) : Type 0 where
  pub noted : (s a : ℕ) → (bit (word after s) a ≡ 1)
      ↔ ((bit (word before s) a ≡ 1) ⊎ ((a ≡ b) × LaidSet sets end s))

-- the words once closed: the bit above the row's is 1 at x exactly if x is backed
abbrev pub BackedTable : View → List ℕ → Type 0
BackedTable v ws = (x : ℕ) → x < 2 ^ v.members → (bit (word ws x) (suc v.members) ≡ 1) ↔ Backed v x
