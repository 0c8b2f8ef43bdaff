-- `rights::rights` meets its contract.
use Prim.Native.Nat.{ℕ, ◌^◌, ◌<◌}
use mathlib.Core.Path.{sym, subst}
use native.Mathlib.Omega.{arith}
use Rattle.model.specs.Listing.{ordinary}
use Rattle.layout.specs.Targets.{view_of}
use Rattle.model.proofs.Check.{accepted_visible}
use Rattle.rights.proofs.Held.{readable, own_fits, filtered, ready_rights, ready_still}
use Rattle.rights.proofs.rights.Goals as goal

pub minimal-found-requires : goal.minimal-found-requires
minimal-found-requires c =
    let t = c.args.target in
    let e = c.requires.n_value.0 in
    let r = c.requires.ready in (
      omega (arith, e, accepted_visible t.cat.now t.accepted t.table t.known),
      c.requires.n_value.1,
      own_fits t.cat.now t.table e r.rights,
      readable c.args.held (view_of t) _ c.args.own c.args.work.now (sym e) r.holding,
    )

pub filter-requires : goal.filter-requires
filter-requires c =
    let t = c.args.target in
    let e = c.requires.n_value.0 in
    let still = c.minimal-found.ensures.holding (view_of t) (sym e) c.requires.ready.holding in (
      omega (arith, e, accepted_visible t.cat.now t.accepted t.table t.known),
      c.requires.n_value.1,
      readable c.args.held (view_of t) _ c.args.own _ (sym e) still,
    )

pub returns : goal.returns
returns c =
    let t = c.args.target in
    let l = ordinary t.cat.now in
    let e = c.requires.n_value.0 in
    let f = filtered t.cat.now t.table t.accepted t.known
    (subst (λ (n : ℕ). c.args.left < 2 ^ n) e c.requires.n_value.1) in
    let m = c.minimal-found in record {
      value = ready_rights l t.table f c.requires.ready e m.ensures c.filter.ensures;
      ready_2 = ready_still l t.table f c.requires.ready e m.ensures;
    }
