-- `rights::back_table` meets its contract: the words that were scanned become the table.
use native.Mathlib.Omega.{arith}
use lib.Pow.{pow_pos}
use Rattle.layout.specs.Targets.{view_of}
use Rattle.model.proofs.Check.{accepted_visible}
use Rattle.model.proofs.Target.{view_equivalence}
use Rattle.rights.proofs.Held.{sets_inside, sets_rows, holds_table}
use Rattle.rights.proofs.back_table.Goals as goal

pub overflow_add-n : goal.overflow_add-n
overflow_add-n c =
    let t = c.args.target in
    record { fits = omega (arith, c.requires.0, accepted_visible t.cat.now t.accepted t.table t.known) }

pub note-requires : goal.note-requires
note-requires c =
    let t = c.args.target in
    let few = accepted_visible t.cat.now t.accepted t.table t.known in (
      c.rows.ensures.few,
      omega (arith, few, c.requires.0),
      sets_inside _ _ _ _ _ (sets_rows t.cat.now t.table c.requires.0 c.rows.ensures.is c.lay.ensures)
          (omega (arith, c.requires.1)),
    )

pub close-requires : goal.close-requires
close-requires c =
    let t = c.args.target in
    let few = accepted_visible t.cat.now t.accepted t.table t.known in
    (omega (arith, few, c.requires.0), omega (arith, c.requires.1, pow_pos c.args.n))

pub returns : goal.returns
returns c =
    let t = c.args.target in
    let p = c.requires in
    let few = accepted_visible t.cat.now t.accepted t.table t.known in
    holds_table (view_of t) _ _ _ _ _ _ (view_equivalence t.cat.now t.table) (omega (arith, few, p.0)) p.2 p.3
    (sets_rows t.cat.now t.table p.0 c.rows.ensures.is c.lay.ensures) c.note.ensures c.close.ensures
    (omega (arith, p.1))
