-- `lines::wide::add_wide` meets its contract. The invariant: the members below k are looked at.
use Prim.Native.Nat.{ℕ}
use mathlib.Core.List.{List}
use Rattle.lines.specs.Lines.{LineOf, met_at}
use Rattle.lines.proofs.wide.add_wide.Given as goal

abbrev pub invariant-loop-k : goal.invariant-loop-k
invariant-loop-k l =
    (bytes : List ℕ) → LineOf (met_at l.keys.keys.now bytes l.few 0 l.x) l.x l.keys.rows l.initial.line
    → LineOf (met_at l.keys.keys.now bytes l.few l.k l.x) l.x l.keys.rows l.line
