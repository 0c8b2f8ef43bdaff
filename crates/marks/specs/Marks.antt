-- Sets of columns on planes wide enough for them, and what is read off planes. Nothing here knows of a catalogue.
use Rattle.std.specs.Prelude.{ℕ, ◌-◌, ◌^◌, ◌≤◌, ◌≡◌, ◌⊎◌, List}
use Rattle.columns.specs.Bound.{column_bound}
use Rattle.columns.specs.Set.{bit, without_of}
use Rattle.planes.specs.Bits.{plane_bit}

-- a plane of m columns is wide enough for sets of n columns, and no wider than the bound unless they are
pub record Wide (n m : ℕ) : Type 0 where
  pub all : n ≤ m
  pub word : 5 ≤ m
  pub few : n ≤ column_bound → m ≤ column_bound

-- the mirror of x: the columns of m that are not in it. So x contains y exactly if the mirror of x lies inside the
-- mirror of y
abbrev pub mirror : ℕ → ℕ → ℕ
mirror m x = 2 ^ m - 1 - x

-- x is covered, by two planes with the mirrors of sets and a plane with sets: if a is not in it and it is marked on the
-- plane of the backed sets, it is marked on one of the three
abbrev pub CoveredBy : List ℕ → List ℕ → List ℕ → List ℕ → ℕ → ℕ → ℕ → Type 0
CoveredBy backed keys lefts sets m a x =
    bit x a ≡ 0 → plane_bit backed x ≡ 1
    → (plane_bit lefts (mirror m x) ≡ 1) ⊎ ((plane_bit keys (mirror m x) ≡ 1) ⊎ (plane_bit sets x ≡ 1))

-- x without any one of its members is not marked on a plane with the mirrors of sets
abbrev pub Alone : List ℕ → ℕ → ℕ → Type 0
Alone lefts m x = (k : ℕ) → bit x k ≡ 1 → plane_bit lefts (mirror m (without_of x k)) ≡ 0
