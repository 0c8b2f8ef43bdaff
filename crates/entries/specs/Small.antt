-- What the laws on packed lists ask of entries: a left side has no bit at or above the bound on columns. The type of an
-- entry says it, since a left side has 2 bytes and the bound is 16; with a wider left side it would have to come from
-- 15.
use Rattle.std.specs.Prelude.{◌^◌, ◌<◌, List, [], ◌∷◌}
use Rattle.columns.specs.Bound.{column_bound}
use Rattle.model.specs.declared.Entry.{Entry}

-- each left side is a set of columns below the bound
abbrev pub Small : List Entry → Type 0
Small [] = Unit {0}
Small (e ∷ es) = (e.left < 2 ^ column_bound) × Small es
