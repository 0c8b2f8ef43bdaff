-- `elements::content` and `elements::element` meet their contracts: the one proof of their cycle of calls. The measure
-- is the depth: an element calls content one less deep, and content calls elements as deep as itself, so it is 2 for
-- each level, and 1 more for content. The loop's invariant: what is read from here is what is read from the start. Its
-- measure is what is left of the text.
use Prim.Native.Nat.{◌+◌, ◌-◌, ◌*◌, ◌≤◌}
use mathlib.Core.Path.{◌≡◌}
use lib.ListN.{length}
use Rattle.model.specs.Form.{content_by, element_at}
use Rattle.model.specs.Convert.{taken}
use Rattle.elements.proofs.Inside.{content_from}
use Rattle.elements.proofs.+content_element.Given as goal

abbrev pub decreases-content : goal.decreases-content
decreases-content l = 2 * l.depth + 1

abbrev pub decreases-element : goal.decreases-element
decreases-element l = 2 * l.depth

abbrev pub invariant-content-loop-q : goal.invariant-content-loop-q
invariant-content-loop-q l =
    (content_from l.s (taken l.strict l.shape) l.depth l.up l.q
    ≡ content_by l.s (element_at l.s (taken l.strict l.shape) l.depth l.up) l.p)
    × (l.p ≤ l.q)

abbrev pub decreases-content-loop-q : goal.decreases-content-loop-q
decreases-content-loop-q l = length l.s - l.q
