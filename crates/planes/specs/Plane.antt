-- What planes say of a view ("Agreement", and demand 2): the seeds are the agree sets of its pairs of rows, and the
-- plane of a right says which left sides do not give it, and another which are backed (document 02, d).
use Rattle.std.specs.Prelude.{ℕ, ◌+◌, ◌-◌, ◌^◌, ◌<◌, ◌≡◌, ◌↔◌, false, List}
use Rattle.model.specs.View.{View, Equivalence, holds, Backed}
use Rattle.table.specs.Broken.{Occurs}
use Rattle.model.specs.Rights.{right_at}
use Rattle.planes.specs.Bits.{plane_bit}

-- how many words the seeds of n columns take
abbrev pub seed_words : ℕ → ℕ
seed_words n = 2 ^ (n - 5)

-- seeds among the sets of m columns: the bit of s is 1 exactly if s is the agree set of a pair of rows; and the seeds,
-- among the sets of members
abbrev pub SeedsBelow : View → ℕ → List ℕ → Type 0
SeedsBelow v m ws = (s : ℕ) → s < 2 ^ m → (plane_bit ws s ≡ 1) ↔ Occurs v s

abbrev pub Seeds : View → List ℕ → Type 0
Seeds v ws = SeedsBelow v v.members ws

-- the words hold the seeds of a view of n members
pub record Sown (v : View) (n : ℕ) (ws : List ℕ) : Type 0 where
  pub members : v.members ≡ n
  pub equivalence : Equivalence v
  pub seeds : Seeds v ws

-- the plane of right a: the bit of x is 1 exactly if x does not give a
abbrev pub Plane : View → ℕ → List ℕ → Type 0
Plane v a ws =
    (x : ℕ) → x < 2 ^ v.members → (plane_bit ws x ≡ 1) ↔ (holds v x (right_at v.members a) ≡ false)

-- the plane of backed left sides: the bit of x is 1 exactly if x is backed; and the same plane behind the seeds of n
-- members
abbrev pub BackedPlane : View → List ℕ → Type 0
BackedPlane v ws = (x : ℕ) → x < 2 ^ v.members → (plane_bit ws x ≡ 1) ↔ Backed v x

abbrev pub BackedBehind : View → ℕ → List ℕ → Type 0
BackedBehind v n ws = (x : ℕ) → x < 2 ^ n → (plane_bit ws (2 ^ n + x) ≡ 1) ↔ Backed v x
