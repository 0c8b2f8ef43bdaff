-- `presence::backed_plane` meets its contract.
use Prim.Native.Nat.{ℕ}
use mathlib.Core.Path.{◌≡◌, sym, subst}
use mathlib.Core.List.{List}
use Rattle.layout.specs.Targets.{view_of, members_in, rows_in}
use Rattle.layout.specs.declared.target.Target.{Target}
use Rattle.table.specs.Backed.{PresentSets}
use Rattle.presence.proofs.Sets.{laid_small}
use Rattle.presence.proofs.backed_plane.Goals as goal

-- the sets of the rows, as many as there are
laid : (t : Target) (end : ℕ) (sets : List ℕ) → end ≡ rows_in t
    → PresentSets (view_of t) (members_in t) (rows_in t) sets → PresentSets (view_of t) (members_in t) end sets
laid t end sets e h = subst (λ (n : ℕ). PresentSets (view_of t) (members_in t) n sets) (sym e) h

pub close_rows-requires : goal.close_rows-requires
close_rows-requires c =
    let t = c.args.target in (
      c.rows.ensures.few,
      c.requires.1,
      laid_small (view_of t) (members_in t) c.args.m _ _ (laid t _ _ c.rows.ensures.is c.lay.ensures) c.requires.0,
    )

pub returns : goal.returns
returns c =
    let t = c.args.target in
    c.close_rows.ensures (view_of t) (members_in t) c.requires.0 (laid t _ _ c.rows.ensures.is c.lay.ensures)
