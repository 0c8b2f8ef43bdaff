-- The filter between the engine and the listing: of the minimal rights of a left side x of a view, those that are
-- listed. If x is not backed it keeps none; else the row alone, if the row is among them, and else all. For a left side
-- that is a key and minimal for some right is a minimal key (`key_minimal` of `model`), and a key stands for what it
-- gives.
use Rattle.std.specs.Prelude.{ℕ, ◌^◌}
use Rattle.columns.specs.Set.{bit}
use Rattle.columns.specs.Test.{pick, if_eq}
use Rattle.model.specs.View.{View, backed}

-- of the minimal rights of a left side of n members, those that are not dropped: where the row's bit stands, only it
unfoldable pub undropped : ℕ → ℕ → ℕ
undropped n minimal = if_eq (bit minimal n) 1 (2 ^ n) minimal

unfoldable pub kept : View → ℕ → ℕ → ℕ
kept v x minimal = pick (backed v x) (undropped v.members minimal) 0
