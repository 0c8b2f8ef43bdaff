-- `packed::open` meets its contract: 14, 15, or the list.
use mathlib.Core.Path.{refl}
use native.Mathlib.Omega.{arith}
use Rattle.packed.proofs.Opening.{no_list, bad_list, good_list}
use Rattle.packed.proofs.open.Goals as goal

pub returns-then-file-lt-TRAILER_BYTES : goal.returns-then-file-lt-TRAILER_BYTES
returns-then-file-lt-TRAILER_BYTES c = no_list _ refl refl (λ h e l. omega arith)

pub returns-then-distance-count : goal.returns-then-distance-count
returns-then-distance-count c =
    no_list _ c.distance_in-distance.ensures c.count_in-count.ensures (λ h e l. grind arith)

pub returns-then-not-entries_ok : goal.returns-then-not-entries_ok
returns-then-not-entries_ok c =
    bad_list _ (omega arith) c.distance_in-distance.ensures c.count_in-count.ensures (omega arith) (omega arith)
    c.if-not-entries_ok.ensures

pub returns : goal.returns
returns c =
    good_list _ (omega arith) c.distance_in-distance.ensures c.count_in-count.ensures (omega arith) (omega arith)
    c.if-not-entries_ok.ensures
