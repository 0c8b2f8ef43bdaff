-- Counts of rows, one for each table.
use Rattle.std.specs.Prelude.{ℕ, suc, ◌<◌, ◌≡◌, List, length, get_or, set}
use Rattle.model.specs.Bounds.{table_bound}
use Rattle.model.specs.Convert.{Tag, count_of}

-- one more row of table n, where there is such a table
unfoldable pub one_more : ℕ → List ℕ → List ℕ
one_more n counts = set counts n (suc (get_or counts n 0))

-- the counts are those of some tags
pub record Counts (ts : List Tag) (counts : List ℕ) : Type 0 where
  pub many : length counts ≡ table_bound
  pub each : (t : ℕ) → t < table_bound → get_or counts t 0 ≡ count_of t ts
