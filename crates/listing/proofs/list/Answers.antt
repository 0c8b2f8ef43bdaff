-- `listing::list` meets its contract: the invariant over a turn that puts an entry, and at the end.
use Rattle.std.proofs.lemmas.Result.{err_from_is_err_and}
use Rattle.model.proofs.Complete.{none_before}
use Rattle.listing.proofs.Steps.{no_ground, good, refuses, stands_next, lists}
use Rattle.listing.proofs.list.Goals as goal

pub returns-in_err-s : goal.returns-in_err-s
returns-in_err-s c =
    let p = err_from_is_err_and c.from_residual.result c.from_residual.ensures.1 in
    rw (p.1, p.2) (refuses _ _ _ _ _ _ _ _ c.in_err-s.ensures)

pub step-s-requires : goal.step-s-requires
step-s-requires c =
    let f = rw c.in-Put.is at c.loop-s.invariant.facts in
    (none_before _ _ _ _ _ _ (no_ground _ _ _ _ _ _ _ _ _ _ f), good _ _ _ _ _ _ _ _ _ _ f)

pub loop-s-preserved : goal.loop-s-preserved
loop-s-preserved c =
    let st = c.loop-s.invariant in
    let f = rw c.in-Put.is at st.facts in
    stands_next _ _ _ _ _ _ _ _ _ _ f _ _ st.counted st.written _ _ c.step-s.ensures c.step-s.auto.work

pub returns-in-Done : goal.returns-in-Done
returns-in-Done c =
    let st = c.loop-s.invariant in
    let f = rw c.in-Done.is at st.facts in
    rw st.written (lists _ _ _ _ _ _ st.put _ _ f)
