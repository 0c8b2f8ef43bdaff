-- When a record is true, by the keys of its target's members; and what is promised of the records of a target.
use Rattle.std.specs.Prelude.{ℕ, ◌<◌, ◌≡◌, List, T, eqb}
use Rattle.model.specs.View.{In, AgreeOn, agree_right}
use Rattle.model.specs.Evidence.{TrueRecord}
use Rattle.model.specs.declared.Evidence.{Evidence}
use Rattle.leaders.specs.Keys.{key_at}
use Rattle.leaders.specs.Table.{view_by}
use Rattle.leaders.specs.declared.row_keys.RowKeys.{RowKeys}
use Rattle.evidence.specs.Lists.{Each}
use Rattle.evidence.specs.Sides.{SidesFit}

-- two rows agree on column k, if it is in the set, by their keys
abbrev pub AgreeAt : RowKeys → ℕ → ℕ → ℕ → ℕ → Type 0
AgreeAt t set p q k = In k set → T (eqb (key_at t.keys.now k p) (key_at t.keys.now k q))

-- a record is true of a target whose members, the first `low` of them inherited, and rows the keys are laid for
pub record TrueBy (t : RowKeys) (low : ℕ) (e : Evidence) : Type 0 where
  pub sides : SidesFit t.members low e.set e.right
  pub first : e.first < t.rows
  pub second : e.second < t.rows
  pub agree : AgreeOn (view_by t) e.set e.first e.second
  pub disagree : T (agree_right (view_by t) e.right e.first e.second) → ⊥

-- a record is true if it is one of the target
abbrev pub TrueByFor : RowKeys → ℕ → ℕ → Evidence → Type 0
TrueByFor t low target e = e.target ≡ target → TrueBy t low e

-- all records of a target are true: by keys, and in the catalogue
abbrev pub AllTrueBy : RowKeys → ℕ → ℕ → List Evidence → Type 0
AllTrueBy t low target rs = Each (TrueByFor t low target) rs

abbrev pub AllTrue : List ℕ → ℕ → List Evidence → Type 0
AllTrue cat target rs = Each (λ e. e.target ≡ target → TrueRecord cat e) rs
