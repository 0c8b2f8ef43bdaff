-- `listing::list_filled` meets its contract: the first records are lent, and what is behind them stays.
use Rattle.std.proofs.Common.{refl}
use Rattle.listing.proofs.ByValue.{cap_within, min_cap, taken_length, filled_from}
use Rattle.listing.proofs.list_filled.Goals as goal

pub slice_bounds-run-end : goal.slice_bounds-run-end
slice_bounds-run-end c = rw (min_cap c.args.room c.min-k.ensures) (cap_within c.args.room)

pub slice_bounds-list-end : goal.slice_bounds-list-end
slice_bounds-list-end c = taken_length c.args.room _ _ refl (min_cap c.args.room c.min-k.ensures)

pub returns : goal.returns
returns c =
    filled_from c.args.room _ _ refl (min_cap c.args.room c.min-k.ensures) _ _ _ _ _ _ _ c.list-answer.auto.run c.list-answer.ensures
