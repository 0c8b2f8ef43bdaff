-- The cache behind the seeds and the plane of backed left sides: a word for the cursor, a word for how many pairs stand
-- there, and the pairs, each a left side and its minimal rights. What the functions that write and read it promise.
use Rattle.std.specs.Prelude.{ℕ, suc, ◌+◌, ◌-◌, ◌*◌, ◌^◌, ◌≤◌, ◌<◌, ◌≡◌, ◌↔◌, Bool, true, ◌&&◌, List, length}
use Rattle.columns.specs.Test.{pick}
use Rattle.model.specs.View.{View, is_in, minimal}
use Rattle.table.specs.Words.{word, Narrow}
use Rattle.table.specs.Broken.{minimal_mask}
use Rattle.model.specs.Rights.{right_at}
use Rattle.planes.specs.Bits.{plane_bit}
use Rattle.planes.specs.Plane.{Sown, BackedBehind}

-- where the cursor stands: behind the seeds and the plane of backed left sides, which takes as many words; and where
-- the pairs begin: behind it and the count
abbrev pub cursor_at : ℕ → ℕ
cursor_at n = 2 ^ (n - 4)

abbrev pub pairs_at : ℕ → ℕ
pairs_at n = cursor_at n + 2

-- the places of the left side and of the rights of pair j
abbrev pub left_at : ℕ → ℕ → ℕ
left_at n j = pairs_at n + 2 * j

-- the pairs that the words say they hold are inside, and there is room for at least one
pub record Roomy (n : ℕ) (ws : List ℕ) : Type 0 where
  pub one : pairs_at n + 2 ≤ length ws
  pub count : left_at n (word ws (cursor_at n + 1)) ≤ length ws

-- pairs of words from a place on: a left side, and behind it its minimal rights
pub record CachedPair (v : View) (own : ℕ) (ws : List ℕ) (at : ℕ) : Type 0 where
  pub left : word ws at < 2 ^ v.members
  pub rights : word ws (suc at) ≡ minimal_mask v own (word ws at)

abbrev pub Cached : View → ℕ → List ℕ → ℕ → ℕ → Type 0
Cached v own ws from count = (j : ℕ) → j < count → CachedPair v own ws (from + 2 * j)

-- the words hold the seeds and the plane of backed left sides, and the pairs behind them are right
pub record Stocked (v : View) (n own : ℕ) (ws : List ℕ) : Type 0 where
  pub sown : Sown v n ws
  pub backed : BackedBehind v n ws
  pub cached : Cached v own ws (pairs_at n) (word ws (cursor_at n + 1))

-- right a is asked for and minimal for x
abbrev pub asked_minimal : View → ℕ → ℕ → ℕ → Bool
asked_minimal v own x a = is_in a own && minimal v x (right_at v.members a)

-- how many pairs a block has: at least one, no more than there are left sides, and they are inside
pub record Room (n length count : ℕ) : Type 0 where
  pub some : 0 < count
  pub few : count ≤ 2 ^ n
  pub fits : left_at n count ≤ length

-- the left sides of a block are written, the first of them given, each with no rights
pub record Lefts (n first count : ℕ) (before after : List ℕ) : Type 0 where
  pub room : Room n (length before) count
  pub kept : (i : ℕ) → i < pairs_at n → word after i ≡ word before i
  pub first_left : word after (left_at n 0) ≡ first
  pub lefts : (j : ℕ) → j < count → word after (left_at n j) < 2 ^ n
  pub none : (j : ℕ) → j < count → word after (suc (left_at n j)) ≡ 0

-- what a right adds to the rights of x, by its plane
pub record Added (plane : List ℕ) (x a r : ℕ) : Type 0 where
  pub test : Bool
  pub narrow : (test ≡ true) ↔ Narrow (plane_bit plane) x a
  pub value : r ≡ pick test (2 ^ a) 0

-- right a is added to the first pairs, by its plane
pub record AddedBelow (n a count : ℕ) (plane before after : List ℕ) : Type 0 where
  pub kept : (i : ℕ) → i < pairs_at n → word after i ≡ word before i
  pub lefts : (j : ℕ) → word after (left_at n j) ≡ word before (left_at n j)
  pub rest : (j : ℕ) → count ≤ j → word after (suc (left_at n j)) ≡ word before (suc (left_at n j))
  pub rights : (j : ℕ) → j < count
      → (r : ℕ) × Added plane (word before (left_at n j)) a r
      × (word after (suc (left_at n j)) ≡ word before (suc (left_at n j)) + r)

-- the pairs are left sides of n columns, and their rights are below a
pub record PairsBelow (n a count : ℕ) (ws : List ℕ) : Type 0 where
  pub lefts : (j : ℕ) → j < count → word ws (left_at n j) < 2 ^ n
  pub rights : (j : ℕ) → j < count → word ws (suc (left_at n j)) < 2 ^ a

-- right a is answered: added to each pair for whose left side it is minimal
pub record Answered (n own a count : ℕ) (before after : List ℕ) : Type 0 where
  pub kept : (i : ℕ) → i < pairs_at n → word after i ≡ word before i
  pub lefts : (j : ℕ) → word after (left_at n j) ≡ word before (left_at n j)
  pub below : (j : ℕ) → j < count → word after (suc (left_at n j)) < 2 ^ suc a
  pub rights : (v : View) → Sown v n before → (j : ℕ) → j < count
      → word after (suc (left_at n j))
      ≡ word before (suc (left_at n j)) + pick (asked_minimal v own (word before (left_at n j)) a) (2 ^ a) 0

-- a block of left sides from the first on is answered
pub record Block (n own first count : ℕ) (before after : List ℕ) : Type 0 where
  pub room : Room n (length before) count
  pub kept : (i : ℕ) → i < pairs_at n → word after i ≡ word before i
  pub first_left : word after (left_at n 0) ≡ first
  pub cached : (v : View) → Sown v n before → Cached v own after (pairs_at n) count

-- the cursor's pair is that of x
pub record AtCursor (n x : ℕ) (ws : List ℕ) : Type 0 where
  pub some : word ws (cursor_at n) < word ws (cursor_at n + 1)
  pub left : word ws (left_at n (word ws (cursor_at n))) ≡ x

-- the rights of x, and words that stay ready
pub record RightsFrom (n own x : ℕ) (before after : List ℕ) (r : ℕ) : Type 0 where
  pub roomy : Roomy n after
  pub rights : (v : View) → Stocked v n own before → r ≡ minimal_mask v own x
  pub ready : (v : View) → Stocked v n own before → Stocked v n own after
