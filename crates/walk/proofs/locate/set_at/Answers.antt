-- `walk::set_at` meets its contract: the index is inside the order.
use Rattle.std.proofs.Common.{◌≡◌, refl, ap, get_or}
use Rattle.columns.specs.Order.{in_order}
use Rattle.columns.specs.Set.{set_of}
use Rattle.columns.specs.declared.ColumnSet.{ColumnSet}
use Rattle.columns.proofs.Order.{at_inside}
use Rattle.walk.proofs.locate.set_at.Goals as goal

pub unwrap-requires : goal.unwrap-requires
unwrap-requires c =
    rw (c.at.ensures, at_inside c.args.n c.args.index c.requires.n_le_column_bound c.requires.index_bound) refl

pub returns : goal.returns
returns c =
    let e = at_inside c.args.n c.args.index c.requires.n_le_column_bound c.requires.index_bound in
    let s : c.unwrap.result ≡ set_of (get_or (in_order c.args.n) c.args.index 0) = cc in
    ap (λ (t : ColumnSet). t.bits) s
