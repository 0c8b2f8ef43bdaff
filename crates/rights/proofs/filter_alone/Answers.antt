-- `rights::filter_alone` meets its contract.
use mathlib.Core.Path.{refl, sym, ◌∙◌}
use Rattle.layout.specs.Targets.{view_of, members_in}
use Rattle.rights.proofs.Kept.{kept_none, kept_backed, kept_no}
use Rattle.rights.proofs.Held.{sets_rows}
use Rattle.rights.proofs.filter_alone.Goals as goal

pub returns-then-minimal-eq0 : goal.returns-then-minimal-eq0
returns-then-minimal-eq0 c = kept_none _ _ _ c.if-minimal-eq0.true

pub returns-then-is_backed : goal.returns-then-is_backed
returns-then-is_backed c =
    let t = c.args.target in
    let found = c.is_backed.ensures (view_of t) (members_in t)
    (sets_rows t.cat.now t.table refl c.rows.ensures.is c.lay.ensures) c.requires in
    kept_backed _ _ _ _ _ (sym c.members.ensures.is) (sym found ∙ c.if-is_backed.true) c.undropped.ensures

pub returns : goal.returns
returns c =
    let t = c.args.target in
    let found = c.is_backed.ensures (view_of t) (members_in t)
    (sets_rows t.cat.now t.table refl c.rows.ensures.is c.lay.ensures) c.requires in
    kept_no _ _ _ (sym found ∙ c.if-is_backed.false)
