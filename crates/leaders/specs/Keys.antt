-- Keys: numbers laid side by side, one for each member and row, by which rows are compared. Nothing here knows of a
-- catalogue: keys are right for a view if two rows have equal keys on a member exactly if they agree there.
use Rattle.std.specs.Prelude.{ℕ, ◌+◌, ◌*◌, ◌^◌, ◌≤◌, ◌<◌, ◌≡◌, List, true, eqb, get_or}
use Rattle.columns.specs.Bound.{column_bound}
use Rattle.model.specs.Bounds.{row_bound}
use Rattle.model.specs.First.{first_from}
use Rattle.model.specs.View.{View, In}
use Rattle.leaders.specs.Leaders.{leader_of}

-- how many keys there are room for
abbrev pub keys_size : ℕ
keys_size = column_bound * row_bound

-- the key of row q on member k
abbrev pub key_at : List ℕ → ℕ → ℕ → ℕ
key_at keys k q = get_or keys (k * row_bound + q) 0

-- keys as a view of their own: n members and so many rows, which agree where their keys are equal. Keys tell nothing of
-- cells that are missing, so here none is
abbrev pub key_view : List ℕ → ℕ → ℕ → View
key_view keys n end =
    record {
      rows = end;
      members = n;
      agree = λ k p q. eqb (key_at keys k p) (key_at keys k q);
      present = λ k p. true;
    }

-- the keys are laid for the members of a set: the key of a row on a member is its leader there
abbrev pub LaidFor : View → ℕ → List ℕ → Type 0
LaidFor v set keys = (k q : ℕ) → k < v.members → In k set → q < v.rows → key_at keys k q ≡ leader_of v (2 ^ k) q

-- the keys are right for a view of n members and so many rows, on the members of a set
pub record Keyed (v : View) (set n end : ℕ) (keys : List ℕ) : Type 0 where
  pub rows : v.rows ≡ end
  pub members : v.members ≡ n
  pub few : n ≤ column_bound
  pub short : end ≤ row_bound
  pub same : (k p q : ℕ) → k < n → In k set → p < end → q < end → v.agree k p q ≡ eqb (key_at keys k p) (key_at keys k q)

-- one number a row: the leader by equal numbers
unfoldable pub first_same : List ℕ → ℕ → ℕ
first_same ws q = first_from (λ p. eqb (get_or ws p 0) (get_or ws q 0)) q 0
