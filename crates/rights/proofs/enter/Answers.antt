-- `rights::enter` meets its contract: the keys laid once, then one left side by itself, or the words filled.
use Prim.Native.Nat.{ℕ, ◌^◌, ◌<◌}
use mathlib.Core.Path.{sym, subst}
use Rattle.std.proofs.lemmas.Option.{MatchOption-at_some}
use Rattle.layout.specs.Targets.{members_in}
use Rattle.model.specs.Listing.{ordinary}
use Rattle.keys.proofs.Catalogue.{keyed_for}
use Rattle.rights.proofs.Held.{own_fits, filtered, alone_rights}
use Rattle.rights.proofs.enter.Goals as goal

pub minimal_alone-minimal-requires : goal.minimal_alone-minimal-requires
minimal_alone-minimal-requires c =
    let e = c.members-n.ensures.is in record {
      x_bound = subst (λ (n : ℕ). c.in-Some.left < 2 ^ n) (sym e)
          (MatchOption-at_some Unit (λ x. x < 2 ^ members_in c.args.target) _ c.in-Some.is c.requires.left_bound);
      own_bound = own_fits _ _ e c.own_rights-own.ensures;
    }

pub filter_alone-mask-requires : goal.filter_alone-mask-requires
filter_alone-mask-requires c =
    MatchOption-at_some Unit (λ x. x < 2 ^ members_in c.args.target) _ c.in-Some.is c.requires.left_bound

pub returns-in-Some : goal.returns-in-Some
returns-in-Some c =
    let t = c.args.target in
    rw c.in-Some.is (
    alone_rights (ordinary t.cat.now) t.table
    (filtered t.cat.now t.table t.accepted t.known
    (MatchOption-at_some Unit (λ x. x < 2 ^ members_in t) _ c.in-Some.is c.requires.left_bound))
    c.own_rights-own.ensures
    (keyed_for _ c.members-n.ensures.is c.rows-end.ensures.is c.lay_all.ensures)
    c.minimal_alone-minimal.ensures
    c.filter_alone-mask.ensures)

pub fill-held-requires : goal.fill-held-requires
fill-held-requires c = (
  c.members-n.ensures.is,
  c.requires.work_bound_in_bounds,
  keyed_for _ c.members-n.ensures.is c.rows-end.ensures.is c.lay_all.ensures,
)

pub returns-in-None : goal.returns-in-None
returns-in-None c =
    rw c.in-None.is (record {
      rights = c.own_rights-own.ensures;
      holding = c.fill-held.ensures _;
    })
