-- From bits to meaning: a plane that was filled from the seeds says which left sides do not give its right, and what
-- is read off it is what is minimal.
use Prim.Native.Nat.{ℕ, ◌^◌, ◌≤◌, ◌<◌}
use mathlib.Core.Path.{◌≡◌}
use mathlib.Core.Logic.{◌↔◌}
use mathlib.Core.Bool.{Bool, true}
use mathlib.Core.List.{List}
use native.Mathlib.Omega.{arith}
use lib.Pow.{pow_mono}
use Rattle.columns.specs.Bound.{column_bound}
use Rattle.model.specs.Rights.{right_at}
use Rattle.model.specs.View.{View, Equivalence, minimal}
use Rattle.model.proofs.Truth.{is_true, true_is, same_test}
use Rattle.model.proofs.View.{minimal_is}
use Rattle.table.specs.Words.{Narrow}
use Rattle.table.specs.Broken.{Occurs}
use Rattle.table.proofs.Table.{agree_set_below, broken_by_set, narrow_minimal}
use Rattle.planes.specs.Bits.{plane_bit, PlaneFrom}
use Rattle.planes.specs.Plane.{SeedsBelow, Plane}

-- the plane of a right, from seeds among the sets of m columns, of which the first are the members
pub seeds_filled_plane : (v : View) (m a : ℕ) (seeds plane : List ℕ) → Equivalence v → v.members ≤ column_bound
    → v.members ≤ m → a ≤ v.members → SeedsBelow v m seeds → PlaneFrom m a seeds plane → Plane v a plane
seeds_filled_plane v m a seeds plane eq b few h scan fill x l =
    let is = broken_by_set v x a eq b l h in (
      λ e.
          let f = fill.sound x (wide l) e in
          let o = (scan f.0 f.1).0 f.4 in
          is.0 (f.0, below o, f.2, f.3, o),
      λ e.
          let f = is.1 e in
          fill.complete x f.0 (wide l) (wide f.1) f.2 f.3 ((scan f.0 (wide f.1)).1 f.4),
    )
  where
    wide : {y : ℕ} → y < 2 ^ v.members → y < 2 ^ m
    wide {y} l = omega (arith, pow_mono {i = v.members} {j = m} few)

    below : {s : ℕ} → Occurs v s → s < 2 ^ v.members
    below {s} o = omega (arith, o.3, agree_set_below v o.0 o.1)

-- what `is_minimal` promises, for the plane of the right
pub narrow_is : (v : View) (plane : List ℕ) (x a : ℕ) (r : Bool) → v.members ≤ column_bound → Plane v a plane
    → x < 2 ^ v.members → a ≤ v.members → (r ≡ true) ↔ Narrow (plane_bit plane) x a
    → r ≡ minimal v x (right_at v.members a)
narrow_is v plane x a r b is l h f =
    let m = narrow_minimal v (plane_bit plane) x a b (λ y. omega arith) is l h in
    let t = minimal_is v x (right_at v.members a) in
    same_test r (minimal v x (right_at v.members a)) (λ e. t.1 (m.0 (f.0 (is_true e))))
    (λ u. true_is (f.1 (m.1 (t.0 u))))
