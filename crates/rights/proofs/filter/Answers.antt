-- `rights::filter` meets its contract.
use Rattle.rights.proofs.Kept.{kept_none}
use Rattle.rights.proofs.Held.{kept_by, dropped_by}
use Rattle.rights.proofs.filter.Goals as goal

pub returns-then-minimal-eq0 : goal.returns-then-minimal-eq0
returns-then-minimal-eq0 c = λ v own e h. kept_none v _ _ c.if-minimal-eq0.true

pub returns-then-backed : goal.returns-then-backed
returns-then-backed c =
    let s = c in
    kept_by _ _ _ _ _ s.args.held s.args.work.now c.backed.ensures
    c.if-backed.true c.undropped.ensures

pub returns : goal.returns
returns c =
    let s = c in
    dropped_by _ _ _ _ s.args.held s.args.work.now c.backed.ensures c.if-backed.false
