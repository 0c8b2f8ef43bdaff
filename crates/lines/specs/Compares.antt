-- What a row is compared by on members.
use Rattle.std.specs.Prelude.{ℕ, ◌+◌, ◌*◌, ◌^◌, ◌<◌, ◌≡◌, List, eqb, get_or, length}
use Rattle.columns.specs.Bound.{column_bound}
use Rattle.columns.specs.Set.{bit}
use Rattle.columns.specs.Test.{pick}
use Rattle.table.specs.Words.{word}
use Rattle.classes.specs.Classes.{byte_stride, number_at}
use Rattle.lines.specs.declared.part.Comparand.{Comparand}
use Rattle.lines.specs.Lines.{part_members}

-- on member v + j: its bit is that of j, if it is numbered
pub record Compares (bytes : List ℕ) (few x v j : ℕ) (c : Comparand) : Type 0 where
  pub place : c.at ≡ (v + j) * byte_stride
  pub inside : v + j < column_bound
  pub own : c.own ≡ number_at bytes (v + j) x
  pub bit : c.bit ≡ bit few (v + j) * 2 ^ j

-- on each of the members from v on that a part has a bit for
pub record ComparesEach (bytes : List ℕ) (few x v : ℕ) (members : List Comparand) : Type 0 where
  pub long : length members ≡ part_members
  pub each : (j : ℕ) (d : Comparand) → j < part_members → Compares bytes few x v j (get_or members j d)

-- the bit that row q adds
abbrev pub added : List ℕ → ℕ → Comparand → ℕ
added bytes q c = pick (eqb c.own (word bytes (c.at + q))) c.bit 0
