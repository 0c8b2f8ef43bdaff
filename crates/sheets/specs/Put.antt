-- What is written into a lent output.
use Rattle.std.specs.Prelude.{ℕ, ◌+◌, ◌≡◌, List, length}
use Rattle.std.proofs.lemmas.List.Edits.{sets}

-- `after` is `before` with some bytes written at a position, and `behind` is the position behind them
pub record Put (before : List ℕ) (at : ℕ) (bytes after : List ℕ) (behind : ℕ) : Type 0 where
  pub written : after ≡ sets before at bytes
  pub end : behind ≡ at + length bytes
