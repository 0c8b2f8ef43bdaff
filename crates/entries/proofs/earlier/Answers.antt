-- `entries::earlier` meets its contract: the order of the ranks, number by number.
use native.Mathlib.Omega.{arith}
use borrow.Author.Rules.{rules}
use Rattle.std.proofs.lemmas.Bool.Decides.{nat_tests}
use Rattle.columns.specs.Bound.{column_bound}
use Rattle.columns.proofs.Membership.{size_own}
use Rattle.model.specs.Entry.{earlier}
use Rattle.entries.proofs.Members.{members_few}
use Rattle.entries.proofs.earlier.Goals as goal

pub returns : goal.returns
unfolding earlier
returns c =
    let p = size_own column_bound c.args.e.it.left (omega arith) (search rules) in
    let q = size_own column_bound c.args.f.it.left (omega arith) (search rules) in
    let m = members_few c.args.e.it.left in
    let n = members_few c.args.f.it.left in
    grind (arith, nat_tests, p, q, m, n)
