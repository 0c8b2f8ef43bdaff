-- The tags of a forest one after the other; which of its rows are taken; and which values are small enough for a file.
use Rattle.std.specs.Prelude.{ℕ, ◌-◌, ◌<◌, Bool, List, [], ◌∷◌, ◌++◌, T}
use Rattle.columns.specs.Test.{if_eq}
use Rattle.model.specs.Bounds.{missing, no_parent}
use Rattle.model.specs.Catalogue.{columns}
use Rattle.model.specs.Forest.{Cells, Forest, none, tree, rows_in}
use Rattle.model.specs.Form.{capped}
use Rattle.model.specs.Convert.{Tag}
use Rattle.encoding.specs.Each.{Each}

-- the tags of the rows, in text order
unfoldable pub tags_of : Forest → List Tag
tags_of none = []
tags_of (tree n cs inside after) = (n, cs) ∷ (tags_of inside ++ tags_of after)

-- the rows of a table of a shape, as they stand in each other
abbrev pub rows_of : List ℕ → Forest → ℕ → List (ℕ × List ℕ)
rows_of shape f t = rows_in (columns shape t) t f no_parent []

-- each row is one to be taken in a row of table `up`
abbrev pub TakenIn : (ℕ → ℕ → Cells → Bool) → ℕ → Forest → Type 0
TakenIn fits up none = Unit {0}
TakenIn fits up (tree n cs inside after) =
    T (fits up (capped n) cs) × (TakenIn fits (capped n) inside × TakenIn fits up after)

-- every value is one that a cell can have
abbrev pub SmallCells : Cells → Type 0
SmallCells cs = Each (λ (c : ℕ × ℕ). c.1 < missing) cs

abbrev pub SmallTags : List Tag → Type 0
SmallTags ts = Each (λ (t : Tag). SmallCells t.1) ts

abbrev pub Small : Forest → Type 0
Small none = Unit {0}
Small (tree n cs inside after) = SmallCells cs × (Small inside × Small after)

-- the parent row that a row gets, by how many rows of its parent table stand before
unfoldable pub up_of : ℕ → ℕ → ℕ
up_of table seen = if_eq table 0 no_parent (seen - 1)
