-- What the laws on evidence records ask of records that are written: each field fits into its bytes. Of a record that
-- code has, its type says it.
use Rattle.std.specs.Prelude.{◌<◌}
use mathlib.Core.List.{List, Memᴰ}
use Rattle.model.specs.declared.Evidence.{Evidence}

pub record SmallRecord (e : Evidence) : Type 0 where
  pub target : e.target < 256
  pub right : e.right < 256
  pub set : e.set < 65536
  pub first : e.first < 65536
  pub second : e.second < 65536

abbrev pub SmallRecords : List Evidence → Type 0
SmallRecords rs = (e : Evidence) → Memᴰ e rs → SmallRecord e
