-- What a writer holds, where that is known, after some bytes were written to it.
use Rattle.std.specs.Prelude.{ℕ, List, [], length, take}
use Rattle.std.specs.Io.KnownBytes.{Appends}
use Rattle.std.specs.declared.option.Option.{Option}
use Rattle.columns.specs.Test.{if_le}

-- known bytes grow by some of the bytes, from the first on
abbrev pub AppendsFirst : Option (List ℕ) → Option (List ℕ) → List ℕ → Type 0
AppendsFirst old new bytes = (k : ℕ) × Appends old new (take k bytes)

-- the first n bytes: none where there are fewer
abbrev pub front : ℕ → List ℕ → List ℕ
front n bytes = if_le n (length bytes) (take n bytes) []
