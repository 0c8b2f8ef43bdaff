-- Planes closed over smaller sets: what is marked on them says of each set whether it contains a listed left, or lies
-- inside a record's set.
use Prim.Native.Nat.{ℕ, ◌^◌, ◌≤◌, ◌<◌}
use mathlib.Core.Path.{◌≡◌, refl, sym, subst}
use mathlib.Core.Logic.{◌↔◌, inl, inr}
use mathlib.Core.List.{List}
use native.Mathlib.Decide.{ℕ_discrete}
use native.Mathlib.Omega.{arith}
use lib.ListN.{replicate}
use lib.Pow.{pow_pos, pow_mono}
use Rattle.columns.specs.Set.{bit}
use Rattle.columns.proofs.Bits.{bit_complement}
use Rattle.model.specs.View.{View, Backed}
use Rattle.model.specs.Bounds.{row}
use Rattle.model.specs.Contains.{Inside, ContainsListed}
use Rattle.model.specs.Verify.{Covered}
use Rattle.model.specs.declared.Entry.{Entry}
use Rattle.model.specs.declared.Evidence.{Evidence}
use Rattle.table.specs.Words.{Above}
use Rattle.table.proofs.Table.{member_below}
use Rattle.planes.specs.Bits.{plane_bit, PlaneFrom}
use Rattle.planes.specs.Plane.{BackedPlane}
use Rattle.planes.specs.Marks.{Marked}
use Rattle.planes.proofs.Marks.{closed_wanted}
use Rattle.evidence.specs.Lists.{Some, Each}
use Rattle.marks.specs.Marks.{mirror, CoveredBy}
use Rattle.marks.specs.Listed.{NarrowLeft, NarrowSet, LeftAt, SetAt, LeftsClosed, SetsClosed}

-- a digit that is not 1
pub not_one : (d : ℕ) → d < 2 → (d ≡ 1 → ⊥) → d ≡ 0
not_one d l n = omega arith

-- mirrors lie inside each other the other way round
pub mirror_below : (m x : ℕ) → mirror m x < 2 ^ m
mirror_below m x = omega (arith, pow_pos m)

pub mirror_inside : (m x y : ℕ) → x < 2 ^ m → y < 2 ^ m → Inside x y → Above (mirror m y) (mirror m x)
mirror_inside m x y lx ly f k e = at (member_below m (mirror m y) k (mirror_below m y) e) (ℕ_discrete (bit x k) 1)
  where
    at : k < m → Dec (bit x k ≡ 1) → bit (mirror m x) k ≡ 1
    at h (yes i) = absurd (omega (arith, bit_complement m y k ly h, f k i))
    at h (no n) = let z = not_one (bit x k) (omega arith) n in omega (arith, bit_complement m x k lx h)

pub inside_mirror : (m x y : ℕ) → x < 2 ^ m → y < 2 ^ m → Above (mirror m y) (mirror m x) → Inside x y
inside_mirror m x y lx ly f k e = at (member_below m x k lx e) (ℕ_discrete (bit y k) 1)
  where
    at : k < m → Dec (bit y k ≡ 1) → bit y k ≡ 1
    at h (yes i) = i
    at h (no n) =
        let z = not_one (bit y k) (omega arith) n in
        let g = f k (omega (arith, bit_complement m y k ly h)) in
        absurd (omega (arith, bit_complement m x k lx h))

pub lefts_closed : (es : List Entry) (target right m n : ℕ) (marks plane : List ℕ)
    → Each (NarrowLeft m target right) es
    → Marked (λ y. Some (LeftAt m target right y) es) (replicate n 0) marks → PlaneFrom m m marks plane
    → LeftsClosed es target right m plane
lefts_closed es target right m n marks plane narrow mark fill =
    record { marks = λ x l. (λ b. listed x l ((is x).0 b), λ f. (is x).1 (marked x l f)) }
  where
    Wanted : ℕ → Type 0
    Wanted x = (s : ℕ) × Above (mirror m x) s × Some (LeftAt m target right s) es

    is : (x : ℕ) → (plane_bit plane (mirror m x) ≡ 1) ↔ Wanted x
    is x =
        closed_wanted m n marks plane
        (λ y w. subst (λ (z : ℕ). z < 2 ^ m) (sym w.2.1) (mirror_below m w.0.left)) mark fill (mirror m x)
        (mirror_below m x)

    listed : (x : ℕ) → x < 2 ^ m → Wanted x → ContainsListed es target right x
    listed x l f =
        let e = f.2.0 in
        let w = f.2.2 in (
          e,
          f.2.1,
          w.0,
          inside_mirror m e.left x (narrow e f.2.1 w.0) l
              (subst (λ (z : ℕ). Above (mirror m x) z) w.1 f.1),
        )

    marked : (x : ℕ) → x < 2 ^ m → ContainsListed es target right x → Wanted x
    marked x l f =
        let e = f.0 in
        let up = mirror_inside m e.left x (narrow e f.1 f.2) l f.3 in
        (mirror m e.left, up, (e, f.1, (f.2, refl)))

pub sets_closed : (rs : List Evidence) (target right m n : ℕ) (marks plane : List ℕ)
    → Each (NarrowSet m target right) rs
    → Marked (λ y. Some (SetAt target right y) rs) (replicate n 0) marks → PlaneFrom m m marks plane
    → SetsClosed rs target right m plane
sets_closed rs target right m n marks plane narrow mark fill =
    record {
      marks = λ x l.
          let is = closed_wanted m n marks plane
          (λ y w. subst (λ (z : ℕ). z < 2 ^ m) (sym w.2.1) (narrow w.0 w.1 w.2.0)) mark fill x l in (
            λ b.
                let f = is.0 b in
                let w = f.2.2 in
                (f.2.0, f.2.1, w.0, subst (λ (z : ℕ). Above x z) w.1 f.1),
            λ f. is.1 (f.0.set, f.3, (f.0, f.1, (f.2, refl))),
          );
    }

-- what `all_covered` promises, in words, in any view whose backed sets are marked
pub all_covered_is : (v : View) (es : List Entry) (rs : List Evidence) (target right n m a : ℕ)
    (backed keys lefts sets : List ℕ) → n ≤ m → v.members ≡ n → BackedPlane v backed
    → LeftsClosed es target row m keys → LeftsClosed es target right m lefts → SetsClosed rs target right m sets
    → ((x : ℕ) → x < 2 ^ n → CoveredBy backed keys lefts sets m a x)
    ↔ ((x : ℕ) → x < 2 ^ n → bit x a ≡ 0 → Backed v x → Covered es rs target right x)
all_covered_is v es rs target right n m a backed keys lefts sets h en plane key left set = (
  λ covered x l o b. elim (covered x l o ((plane x (seen x l)).1 b)) [
    | inl c ↦ inl ((left.marks x (below x l)).0 c)
    | inr (inl c) ↦ inr (inl ((key.marks x (below x l)).0 c))
    | inr (inr c) ↦ inr (inr ((set.marks x (below x l)).0 c))
  ],
  λ covered x l o b. elim (covered x l o ((plane x (seen x l)).0 b)) [
    | inl w ↦ inl ((left.marks x (below x l)).1 w)
    | inr (inl w) ↦ inr (inl ((key.marks x (below x l)).1 w))
    | inr (inr w) ↦ inr (inr ((set.marks x (below x l)).1 w))
  ],
)
  where
    seen : (x : ℕ) → x < 2 ^ n → x < 2 ^ v.members
    seen x l = subst (λ (k : ℕ). x < 2 ^ k) (sym en) l

    below : (x : ℕ) → x < 2 ^ n → x < 2 ^ m
    below x l = omega (arith, pow_mono {i = n} {j = m} h)
