-- The search for the first breaking pair, by the rows that stray from their leaders, in the order of the leader and
-- then of the row.
use Rattle.std.specs.Prelude.{ℕ, ◌+◌, ◌≤◌, ◌<◌, ◌≡◌, ◌⊎◌, List, [], ◌∷◌, Bool, true, false, not, ◌&&◌, eqb, get_or, length}
use Rattle.std.specs.Prelude.{Option, Some, None}
use Rattle.columns.specs.Test.{pick}
use Rattle.model.specs.Bounds.{row, row_bound}
use Rattle.model.specs.declared.RowPair.{RowPair}
use Rattle.leaders.specs.Keys.{key_at}

-- two rows agree on the right side a, by their keys: `agree_right` of any view made of these keys
abbrev pub same_right : List ℕ → ℕ → ℕ → ℕ → Bool
same_right keys a p q = pick (eqb a row) (eqb p q) (eqb (key_at keys a p) (key_at keys a q))

-- does row q stray from its leader?
unfoldable pub strays : List ℕ → List ℕ → ℕ → ℕ → Bool
strays keys leaders a q = not (same_right keys a (get_or leaders q 0) q)

-- does it, and is p its leader?
unfoldable pub follows : List ℕ → List ℕ → ℕ → ℕ → ℕ → Bool
follows keys leaders a p q = eqb (get_or leaders q 0) p && strays keys leaders a q

-- the leaders of the rows below the end are no higher than these
pub record LowerLeaders (end : ℕ) (leaders : List ℕ) : Type 0 where
  pub short : end ≤ row_bound
  pub lower : (q : ℕ) → q < end → get_or leaders q 0 ≤ q

-- the leader of row q is marked if the row strays from it, and what was marked stays so
pub record MarkedMore (keys leaders : List ℕ) (a q : ℕ) (before after : List Bool) : Type 0 where
  pub long : length after ≡ row_bound
  pub kept : (i : ℕ) → get_or before i false ≡ true → get_or after i false ≡ true
  pub more : strays keys leaders a q ≡ true → get_or after (get_or leaders q 0) false ≡ true

-- each leader is marked that a row below the end strays from
abbrev pub MarkedBelow : List ℕ → List ℕ → ℕ → ℕ → List Bool → Type 0
MarkedBelow keys leaders a end marks =
    (q : ℕ) → q < end → strays keys leaders a q ≡ true → get_or marks (get_or leaders q 0) false ≡ true

-- the row after p where p is marked, and else the end
unfoldable pub row_after : List Bool → ℕ → ℕ → ℕ
row_after marks p end = pick (get_or marks p false) (p + 1) end

-- no row strays from a leader below p, nor before q from p
abbrev pub NoneBefore : List ℕ → List ℕ → ℕ → ℕ → ℕ → ℕ → Type 0
NoneBefore keys leaders a end p q =
    (r : ℕ) → r < end → strays keys leaders a r ≡ true → (p < get_or leaders r 0) ⊎ ((p ≡ get_or leaders r 0) × (q ≤ r))

-- what the search finds: the first row that strays, with its leader, or that none does
abbrev pub FirstStray : List ℕ → List ℕ → ℕ → ℕ → Option RowPair → Type 0
FirstStray keys leaders a end (Some p) =
    (p.second < end) × (get_or leaders p.second 0 ≡ p.first) × (strays keys leaders a p.second ≡ true)
    × NoneBefore keys leaders a end p.first p.second
FirstStray keys leaders a end None = (r : ℕ) → r < end → strays keys leaders a r ≡ true → ⊥

-- what the search finds, as rows: two or none
abbrev pub rows_found : Option RowPair → List ℕ
rows_found (Some p) = p.first ∷ p.second ∷ []
rows_found None = []
