-- `scanner::attributes_end` meets its contract. The invariant: the answer from here is the answer from the start. The
-- measure is what is left of the text.
use Prim.Native.Nat.{◌-◌, ◌≤◌}
use mathlib.Core.Path.{◌≡◌}
use lib.ListN.{length}
use Rattle.model.specs.Form.{many, attribute_at, is_attribute}
use Rattle.scanner.proofs.attributes_end.Given as goal

abbrev pub invariant-loop-q : goal.invariant-loop-q
invariant-loop-q l =
    (many l.s (is_attribute l.s) (attribute_at l.s) l.q ≡ many l.s (is_attribute l.s) (attribute_at l.s) l.p)
    × (l.p ≤ l.q)

abbrev pub decreases-loop-q : goal.decreases-loop-q
decreases-loop-q l = length l.s - l.q
