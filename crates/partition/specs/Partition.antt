-- The partition of the rows by a left side, from keys alone: who leads each row, and which rights the left side gives.
use Rattle.std.specs.Prelude.{ℕ, suc, ◌+◌, ◌*◌, ◌≤◌, ◌<◌, ◌≡◌, ◌↔◌, Bool, true, List, get_or, length}
use Rattle.columns.specs.Set.{bit, without_of}
use Rattle.model.specs.Bounds.{row_bound}
use Rattle.model.specs.View.{In, holds}
use Rattle.model.specs.Rights.{right_at}
use Rattle.leaders.specs.Leaders.{leader_of, AllLead}
use Rattle.leaders.specs.Keys.{key_at, key_view}

-- a key is below it; `KEY_BOUND` of src/lib.rt is the same number in code
abbrev pub key_bound : ℕ
key_bound = 65536

-- the leader of a row and its key on one member more, as one number
abbrev pub leader_word : ℕ → ℕ → ℕ
leader_word leader key = leader * key_bound + key

-- each row below `end` has its leader on the left side x by the first n members, and r is true exactly if each leads
-- itself
pub record Led (keys : List ℕ) (n end x : ℕ) (leaders : List ℕ) (r : Bool) : Type 0 where
  pub long : length leaders ≡ row_bound
  pub leads : (q : ℕ) → q < end → get_or leaders q 0 ≡ leader_of (key_view keys n end) x q
  pub alone : (r ≡ true) ↔ AllLead (key_view keys n end) x

-- one member more: leaders on a left side with member k, by the members below k, become those by the members up to k
abbrev pub MemberJoined : List ℕ → ℕ → ℕ → List ℕ → List ℕ → Bool → Type 0
MemberJoined keys k end before after r = (x : ℕ) (s : Bool) → In k x → Led keys k end x before s → Led keys (suc k) end x after r

-- no leader stands behind its row
abbrev pub Back : List ℕ → ℕ → Type 0
Back leaders end = (q : ℕ) → q < end → get_or leaders q 0 ≤ q

-- every row has the key of its leader on member a
abbrev pub Gives : List ℕ → List ℕ → ℕ → ℕ → Type 0
Gives keys leaders a end = (q : ℕ) → q < end → key_at keys a (get_or leaders q 0) ≡ key_at keys a q

-- r is made of those of the members wanted below m that the left side of the leaders gives
pub record GivenBelow (keys leaders : List ℕ) (end wanted m r : ℕ) : Type 0 where
  pub members : (a : ℕ) → (bit r a ≡ 1) ↔ ((a < m) × (bit wanted a ≡ 1) × Gives keys leaders a end)

-- r is made of those of the rights wanted, bit a for member a and bit n for the row, that the left side x gives
abbrev pub Given : List ℕ → ℕ → ℕ → ℕ → ℕ → ℕ → Type 0
Given keys n end x wanted r =
    (a : ℕ) → (bit r a ≡ 1) ↔ ((bit wanted a ≡ 1) × (a ≤ n) × (holds (key_view keys n end) x (right_at n a) ≡ true))

-- right a can spare member k of the left side x: x gives it without k too
abbrev pub Spares : List ℕ → ℕ → ℕ → ℕ → ℕ → ℕ → Type 0
Spares keys n end x a k = (a ≤ n) × (holds (key_view keys n end) (without_of x k) (right_at n a) ≡ true)

-- and it needs each member below m
abbrev pub Needs : List ℕ → ℕ → ℕ → ℕ → ℕ → ℕ → Type 0
Needs keys n end x m a = (k : ℕ) → k < m → In k x → Spares keys n end x a k → ⊥
