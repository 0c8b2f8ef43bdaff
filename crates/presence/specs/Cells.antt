-- The cells of a row by where they stand, and the set of those present, in front of another set.
use Rattle.std.specs.Prelude.{ℕ, ◌+◌, ◌*◌, ◌^◌, List, Bool, not, eqb}
use Rattle.columns.specs.Set.{set_below}
use Rattle.model.specs.Bounds.{missing}
use Rattle.model.specs.Bytes.{u32_at}

-- is the i-th of the cells from byte `from` on present?
abbrev pub present_cell : List ℕ → ℕ → ℕ → Bool
present_cell cat from i = not (eqb (u32_at cat (from + 4 * i)) missing)

-- the set of the m numbers from j on that pass a test, the first as 0, and behind them those of a set
abbrev pub joined_from : (ℕ → Bool) → ℕ → ℕ → ℕ → ℕ
joined_from f j m set = set_below m (λ k. f (j + k)) + 2 ^ m * set
