-- The loop of `list`: the records before `n` are what is put, the others are as they were. Each turn leaves less room.
use Rattle.std.proofs.Common.{◌-◌, length}
use Rattle.model.specs.Listing.{ordinary}
use Rattle.model.specs.List.{list_code}
use Rattle.steps.specs.Steps.{whole, values}
use Rattle.listing.proofs.Steps.{Standing}
use Rattle.listing.proofs.list.Given as goal

abbrev pub invariant-loop-s : goal.invariant-loop-s
invariant-loop-s l =
    Standing (ordinary l.cat) (list_code l.cat l.place l.budget (length l.fn.run) (length l.fn.work))
    (whole (ordinary l.cat) l.place l.budget (length l.fn.run))
    (values (ordinary l.cat) l.place l.budget (length l.fn.run)) l.fn.run l.fn.work l.s l.n l.run l.work

abbrev pub decreases-loop-s : goal.decreases-loop-s
decreases-loop-s l = length l.fn.run - l.n
