-- `rights::minimal` meets its contract, whatever the words hold.
use mathlib.Core.Path.{sym, subst}
use native.Mathlib.Omega.{arith}
use Rattle.passing.specs.declared.Held.{Held}
use Rattle.rights.specs.Ready.{Readable, MinimalBy}
use Rattle.rights.proofs.Held.{table_found, seeds_found}
use Rattle.rights.proofs.minimal.Goals as goal

pub minimal_rights-requires : goal.minimal_rights-requires
minimal_rights-requires c =
    let s = c in
    let h = subst (λ (held : Held). Readable held s.args.n s.args.work.now) c.in-Table.is
    s.requires.3 in
    omega (arith, s.requires.1)

pub rights_from-requires : goal.rights_from-requires
rights_from-requires c =
    let s = c in
    let h = subst (λ (held : Held). Readable held s.args.n s.args.work.now) c.in-Seeds.is
    s.requires.3 in
    (h.0, s.requires.0, s.requires.1, h.1)

pub returns-in-Table : goal.returns-in-Table
returns-in-Table c =
    let s = c in
    let words = s.args.work.now in
    subst (λ (held : Held). MinimalBy s.args.n s.args.left held s.args.own words words
    c.minimal_rights.result)
    (sym c.in-Table.is)
    (table_found s.args.n s.args.left s.args.own _ words s.requires.0 s.requires.2 s.requires.1
    c.minimal_rights.ensures)

pub returns-in-Seeds : goal.returns-in-Seeds
returns-in-Seeds c =
    let s = c in
    let r = c.rights_from in
    subst (λ (held : Held). MinimalBy s.args.n s.args.left held s.args.own s.args.work.now
    r.new.words r.result)
    (sym c.in-Seeds.is)
    (seeds_found s.args.n s.args.left s.args.own _ s.args.work.now _ r.ensures)
