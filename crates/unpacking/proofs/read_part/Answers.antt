-- `unpacking::read_part` meets its contract: each turn stores the next entry, up to the part's last.
use mathlib.Core.Path.{sym, ap, ◌∙◌}
use native.Mathlib.Omega.{arith}
use lib.ListN.{length}
use lib.Seq.{length-take-le}
use Prim.Native.Nat.{◌+◌, ◌*◌}
use Rattle.model.specs.Entries.{entry_bytes}
use Rattle.entries.proofs.Entries.{length_from}
use Rattle.entries.proofs.OneEntry.{entry_cut}
use Rattle.unpacking.proofs.Parts.{part_is, stores_next, stored}
use Rattle.unpacking.proofs.read_part.Goals as goal

pub loop-n-preserved : goal.loop-n-preserved
loop-n-preserved c =
    let long = length-take-le c.min-count.result c.args.run.now (omega arith) in
    let here = c.args.first + entry_bytes * c.min-skipped.result + entry_bytes * c.loop-n.n in
    stores_next _ _ _ _ (omega arith) c.loop-n.invariant c.loop-n.auto.slot-items
    (c.entry_from.ensures ∙ entry_cut c.args.file.now here (omega arith))

pub returns-clause-count : goal.returns-clause-count
returns-clause-count c =
    let a = c.args in
    let at = a.first + entry_bytes * c.min-skipped.result in
    sym (ap length (part_is a.file.now a.k a.first a.from _ {at = at} (omega arith) (omega arith)) ∙ length_from _ _ _)

pub returns-clause-run : goal.returns-clause-run
returns-clause-run c =
    let a = c.args in
    stored a.file.now _ _ a.run.now (part_is a.file.now a.k a.first a.from _ (omega arith) (omega arith)) (omega arith)
    (omega arith) c.loop-n.invariant
