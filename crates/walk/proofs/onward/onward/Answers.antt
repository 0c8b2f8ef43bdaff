-- `walk::onward` meets its contract.
use Rattle.model.specs.Listing.{ordinary}
use Rattle.walk.proofs.Walks.{stopped_spent, stopped_end, goes}
use Rattle.walk.proofs.onward.onward.Goals as goal

pub returns-then-w-eq0 : goal.returns-then-w-eq0
returns-then-w-eq0 c = stopped_spent (ordinary c.args.cat.now) c.args.w c.requires.pending_value c.if-w-eq0.true

pub returns-in_err-v : goal.returns-in_err-v
returns-in_err-v c =
    rw c.from_residual.ensures
    (stopped_end (ordinary c.args.cat.now) c.args.w c.requires.pending_value c.in_err-v.ensures)

pub returns : goal.returns
returns c =
    goes (ordinary c.args.cat.now) c.args.w c.args.work.now c.requires.good c.requires.pending_value c.in_ok-v.v
    c.pass.result c.following.new.work c.pass.new.work c.in_ok-v.ensures c.pass.ensures
