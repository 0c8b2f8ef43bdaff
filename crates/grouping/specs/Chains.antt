-- Chains of the leaders so far, one for each value of a hash of the words. A place in a chain is one more than a row,
-- and 0 is the end.
use Rattle.std.specs.Prelude.{ℕ, ◌+◌, ◌-◌, ◌*◌, ◌/◌, ◌%◌, ◌^◌, ◌≤◌, ◌<◌, ◌≡◌, ◌↔◌, Bool, true, List, length, get_or, set}
use Rattle.model.specs.Bounds.{row_bound}
use Rattle.leaders.specs.Keys.{first_same}

-- how many chains; `CHAINS` of src/lib.rt is the same number in code
abbrev pub chains : ℕ
chains = 8192

-- the chain of a word: any function would do
unfoldable pub chain_of : ℕ → ℕ
chain_of w = (w % 2 ^ 32 * 2246822519 + w / 2 ^ 32 * 1640531527) / 2 ^ 19 % chains

-- row p leads itself, and its word is in chain h
pub record LeadsIn (ws : List ℕ) (h p : ℕ) : Type 0 where
  pub leads : first_same ws p ≡ p
  pub chain : chain_of (get_or ws p 0) ≡ h

-- c is the place of the last row below m that leads in chain h, or 0 if there is none
pub record LastIn (ws : List ℕ) (m h c : ℕ) : Type 0 where
  pub high : c ≤ m
  pub leads : 0 < c → LeadsIn ws h (c - 1)
  pub last : (p : ℕ) → c ≤ p → p < m → LeadsIn ws h p → ⊥

-- each row below m that leads itself is linked to the one before it in its chain
pub record LinkedBelow (ws : List ℕ) (m : ℕ) (links : List ℕ) : Type 0 where
  pub link : (p : ℕ) → p < m → first_same ws p ≡ p → LastIn ws p (chain_of (get_or ws p 0)) (get_or links p 0)

-- the chains of the leaders below m
pub record Chained (ws : List ℕ) (m : ℕ) (heads links : List ℕ) : Type 0 where
  pub chains_long : length heads ≡ chains
  pub links_long : length links ≡ row_bound
  pub headed : (h : ℕ) → h < chains → LastIn ws m h (get_or heads h 0)
  pub linked : LinkedBelow ws m links

-- row q has its leader and is in its chain, and r is true exactly if it leads itself
pub record Placed (ws : List ℕ) (q : ℕ) (heads links before after : List ℕ) (r : Bool) : Type 0 where
  pub chained : Chained ws (q + 1) heads links
  pub leader : after ≡ set before q (first_same ws q)
  pub leads : (r ≡ true) ↔ (first_same ws q ≡ q)
