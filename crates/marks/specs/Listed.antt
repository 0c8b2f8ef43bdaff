-- Listed lefts, listed keys and records' sets for a target and a right, on planes (document 02, b, d and e).
use Rattle.std.specs.Prelude.{ℕ, ◌^◌, ◌<◌, ◌≡◌, ◌↔◌, List}
use Rattle.model.specs.Bounds.{row}
use Rattle.model.specs.Contains.{EntryFor, ContainsListed}
use Rattle.model.specs.Verify.{RecordFor, InsideRecord}
use Rattle.model.specs.declared.Entry.{Entry}
use Rattle.model.specs.declared.Evidence.{Evidence}
use Rattle.planes.specs.Bits.{plane_bit}
use Rattle.marks.specs.Marks.{mirror, Alone}

-- the left of an entry for the two is one of m columns, and so is the set of a record
abbrev pub NarrowLeft : ℕ → ℕ → ℕ → Entry → Type 0
NarrowLeft m target right e = EntryFor target right e → e.left < 2 ^ m

abbrev pub NarrowSet : ℕ → ℕ → ℕ → Evidence → Type 0
NarrowSet m target right e = RecordFor target right e → e.set < 2 ^ m

-- an entry for the two has its left's mirror at y, and a record has its set there
abbrev pub LeftAt : ℕ → ℕ → ℕ → ℕ → Entry → Type 0
LeftAt m target right y e = EntryFor target right e × (y ≡ mirror m e.left)

abbrev pub SetAt : ℕ → ℕ → ℕ → Evidence → Type 0
SetAt target right y e = RecordFor target right e × (y ≡ e.set)

-- a plane says of each set of m columns whether it contains a left that is listed for the two, by its mirror, and
-- whether it lies inside a record's set
pub record LeftsClosed (es : List Entry) (target right m : ℕ) (plane : List ℕ) : Type 0 where
  pub marks : (x : ℕ) → x < 2 ^ m → (plane_bit plane (mirror m x) ≡ 1) ↔ ContainsListed es target right x

pub record SetsClosed (rs : List Evidence) (target right m : ℕ) (plane : List ℕ) : Type 0 where
  pub marks : (x : ℕ) → x < 2 ^ m → (plane_bit plane x ≡ 1) ↔ InsideRecord rs target right x

-- if the right is a column, a set x is not marked, by its mirror, on the plane of the listed keys
abbrev pub Keyless : List ℕ → ℕ → ℕ → ℕ → Type 0
Keyless keys m right x = (right ≡ row → ⊥) → plane_bit keys (mirror m x) ≡ 0

-- a left is marked as backed, is not marked as broken, contains no other, and contains no key if the right is a column
abbrev pub SoundLeft : List ℕ → List ℕ → List ℕ → List ℕ → ℕ → ℕ → ℕ → Type 0
SoundLeft backed broken keys lefts m right x =
    (plane_bit backed x ≡ 1) × (plane_bit broken x ≡ 0) × Alone lefts m x × Keyless keys m right x

-- an entry's left is so, if it is for the two
abbrev pub SoundBy : List ℕ → List ℕ → List ℕ → List ℕ → ℕ → ℕ → ℕ → Entry → Type 0
SoundBy backed broken keys lefts m target right e =
    EntryFor target right e → SoundLeft backed broken keys lefts m right e.left
