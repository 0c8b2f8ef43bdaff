-- `rights::back_seeds` meets its contract.
use mathlib.Core.Path.{sym}
use native.Mathlib.Omega.{arith}
use Rattle.layout.specs.Targets.{view_of}
use Rattle.model.proofs.Check.{accepted_visible}
use Rattle.planes.proofs.Bits.{seed_words_small}
use Rattle.planes.proofs.Marks.{blank_room}
use Rattle.planes.proofs.Backed.{two_planes}
use Rattle.rights.proofs.Held.{backed_put}
use Rattle.rights.proofs.back_seeds.Goals as goal

pub backed_plane-requires : goal.backed_plane-requires
backed_plane-requires c =
    let t = c.args.target in
    let few = accepted_visible t.cat.now t.accepted t.table t.known in
    (omega (arith, c.requires.0), blank_room c.args.n c.requires.1 (omega (arith, few, c.requires.0)))

pub power-m-requires : goal.power-m-requires
power-m-requires c =
    let t = c.args.target in
    omega (arith, c.requires.0, accepted_visible t.cat.now t.accepted t.table t.known)

pub put_behind-requires : goal.put_behind-requires
put_behind-requires c =
    let t = c.args.target in
    let few = accepted_visible t.cat.now t.accepted t.table t.known in
    let p = c.requires in
    let e = c.power-m.ensures in (
      omega (arith, e, seed_words_small c.args.n (omega (arith, few, p.0))),
      omega (arith, e, two_planes c.args.n p.1, p.2),
    )

pub returns : goal.returns
returns c =
    let p = c.requires in
    let b = c.backed_plane in
    backed_put (view_of c.args.target) _ _ b.new.plane _ _ p.1 (sym p.0)
    c.power-m.ensures c.put_behind.ensures b.ensures
