-- The leader of a row on a left side: the lowest row that agrees with it there. Over any view; proofs/Leaders.antt
-- says what leaders tell where agreement is an equivalence.
use Rattle.std.specs.Prelude.{ℕ, ◌≤◌, ◌<◌, ◌≡◌, T}
use Rattle.model.specs.First.{first_from}
use Rattle.model.specs.View.{View, AgreeOn, agree_on, agree_right}

-- the leader of row q on the left side x: of the rows before q the first that agrees with it, and else q itself
unfoldable pub leader_of : View → ℕ → ℕ → ℕ
leader_of v x q = first_from (λ p. agree_on v x p q) q 0

-- the same in words: p agrees with q on x, and no lower row does
pub record Leader (v : View) (x q p : ℕ) : Type 0 where
  pub reached : p ≤ q
  pub agrees : AgreeOn v x p q
  pub lowest : (r : ℕ) → r < p → AgreeOn v x r q → ⊥

-- row q strays on the right side a: it does not agree there with its leader on x
pub record Strays (v : View) (x a q : ℕ) : Type 0 where
  pub exists : q < v.rows
  pub apart : T (agree_right v a (leader_of v x q) q) → ⊥

-- a row leads itself on x, and all of them do
abbrev pub LeadsItself : View → ℕ → ℕ → Type 0
LeadsItself v x q = leader_of v x q ≡ q

abbrev pub AllLead : View → ℕ → Type 0
AllLead v x = (q : ℕ) → q < v.rows → LeadsItself v x q
