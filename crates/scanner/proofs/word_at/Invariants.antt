-- `scanner::word_at` meets its contract. The invariant: the rest of the word, from here, ends where the whole word
-- does.
use Prim.Native.Nat.{◌+◌, ◌≤◌}
use mathlib.Core.Path.{◌≡◌}
use lib.ListN.{drop}
use Rattle.model.specs.Form.{word_at}
use Rattle.scanner.proofs.word_at.Given as goal

abbrev pub invariant-loop-x : goal.invariant-loop-x
invariant-loop-x l =
    (word_at l.s (drop l.x-index l.word) l.q ≡ word_at l.s l.word l.p) × (l.p + l.x-index ≤ l.q)
