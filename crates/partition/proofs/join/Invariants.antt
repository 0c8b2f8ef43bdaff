-- `partition::join` meets its contract. The invariant: the words of the rows below q are made, and their keys are short.
use Prim.Native.Nat.{ℕ, ◌<◌}
use lib.ListN.{get_or}
use Rattle.leaders.specs.Keys.{key_at}
use Rattle.filled.specs.Filled.{Filled}
use Rattle.partition.specs.Partition.{key_bound, leader_word}
use Rattle.partition.proofs.join.Given as goal

abbrev pub invariant-loop-q : goal.invariant-loop-q
invariant-loop-q l = record {
  words : Filled 0 l.q (λ i. leader_word (get_or l.leaders i 0) (key_at l.keys.keys.now l.k i)) l.initial.words l.words;
  small : (i : ℕ) → i < l.q → key_at l.keys.keys.now l.k i < key_bound;
}
