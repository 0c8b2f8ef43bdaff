-- What a climb in an accepted catalogue reads stands within the bytes: a table's place, its head and its rows.
use Prim.Native.Nat.{ℕ, ◌+◌, ◌*◌, ◌≤◌, ◌<◌}
use mathlib.Core.List.{List}
use native.Mathlib.Omega.{arith}
use native.Mathlib.Nat.{mul-le-mul_right, suc-mul}
use lib.ListN.{length}
use Rattle.model.specs.Catalogue.{tables, trailer, table_at, columns, rows, row_at, table_end}
use Rattle.model.specs.Check.{Accepted}
use Rattle.model.proofs.Check.{accepted_trailer, accepted_end}

module _ (cat : List ℕ) (ok : Accepted cat) where
  pub entry_within : (table : ℕ) → table < tables cat → trailer cat + 4 * table + 4 ≤ length cat
  entry_within table h = let e = accepted_trailer cat ok in omega arith

  table_within : (table : ℕ) → table < tables cat
      → table_at cat table + 6 + rows cat table * (2 + 4 * columns cat table) ≤ length cat
  unfolding row_at table_end
  table_within table h = omega (arith, accepted_end cat ok table h, accepted_trailer cat ok)

  pub head_within : (table : ℕ) → table < tables cat → table_at cat table + 6 ≤ length cat
  head_within table h = omega (arith, table_within table h)

  pub row_within : (table k : ℕ) → table < tables cat → k < rows cat table
      → table_at cat table + 6 + k * (2 + 4 * columns cat table) + (2 + 4 * columns cat table) ≤ length cat
  row_within table k h l =
      omega (
        arith,
        table_within table h,
        mul-le-mul_right (2 + 4 * columns cat table) l,
        suc-mul k (2 + 4 * columns cat table),
      )
