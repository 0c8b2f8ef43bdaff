-- What it means that bytes are put into lent ones at a position.
use Rattle.std.specs.Prelude.{ℕ, ◌+◌, ◌≤◌, ◌≡◌, List, length}
use Rattle.std.proofs.lemmas.List.Edits.{sets}

-- a word that fits stands at the position, and the next position is behind it
pub record Puts (word : List ℕ) (at : ℕ) (before after : List ℕ) (next : ℕ) : Type 0 where
  pub same : length after ≡ length before
  pub bytes : at + length word ≤ length before → after ≡ sets before at word
  pub behind : at + length word ≤ length before → next ≡ at + length word
