-- A record's rows compared by keys, and that a record is true by the keys of its target exactly if it is true.
use Prim.Native.Nat.{ℕ, ◌-◌, ◌^◌, ◌≤◌, ◌<◌}
use mathlib.Core.Path.{◌≡◌, sym, ap, subst}
use mathlib.Core.Logic.{◌⊎◌, inl, inr, ◌↔◌}
use mathlib.Core.Bool.{Bool}
use mathlib.Core.List.{List}
use native.Mathlib.Omega.{arith}
use lib.Dec.{T, eqb}
use borrow.Author.Tests.{ne_eqb}
use Rattle.columns.specs.Test.{pick}
use Rattle.columns.proofs.Bits.{bit_full}
use Rattle.model.specs.Bounds.{row}
use Rattle.model.specs.Catalogue.{tables, visible, inherited}
use Rattle.model.specs.View.{In, AgreeOn, agree_right}
use Rattle.model.specs.Target.{view}
use Rattle.model.specs.Evidence.{TrueRecord}
use Rattle.model.specs.declared.Evidence.{Evidence}
use Rattle.model.proofs.View.{agree_on_is}
use Rattle.table.proofs.Table.{member_below}
use Rattle.leaders.specs.Keys.{key_view, key_at}
use Rattle.leaders.specs.Table.{view_by, KeyedBy}
use Rattle.leaders.specs.declared.row_keys.RowKeys.{RowKeys}
use Rattle.leaders.proofs.Keys.{keyed_agree_on, keyed_right}
use Rattle.evidence.specs.Sides.{SidesFit}
use Rattle.evidence.proofs.Sides.{sides_own}
use Rattle.records.specs.True.{TrueBy, AllTrueBy, AllTrue}

-- a right side by keys that is a column
by_column : (keys : List ℕ) (right p q : ℕ) → (right ≡ row → ⊥)
    → eqb (key_at keys right p) (key_at keys right q) ≡ agree_right (key_view keys 0 0) right p q
by_column keys right p q n =
    ap (λ (b : Bool). pick b (eqb p q) (eqb (key_at keys right p) (key_at keys right q))) (sym (ne_eqb right row n))

module _ (cat : List ℕ) (t : RowKeys) (low : ℕ) where
  -- a record is true by the keys of its target exactly if it is true
  module _ (e : Evidence) (known : e.target < tables cat) (el : low ≡ inherited cat e.target)
      (keyed : KeyedBy (view cat e.target) t) where
    -- the comparisons by keys are those of the view
    set_same : e.first < t.rows → e.second < t.rows
        → AgreeOn (view cat e.target) e.set e.first e.second ↔ AgreeOn (view_by t) e.set e.first e.second
    set_same p q =
        let v = agree_on_is (view cat e.target) e.set e.first e.second in
        let k = agree_on_is (view_by t) e.set e.first e.second in
        let same = keyed_agree_on keyed e.set e.first e.second (λ k l i. bit_full t.members k l) p q in
        (λ h. k.0 (subst T same (v.1 h)), λ h. v.0 (subst T (sym same) (k.1 h)))

    right_same : SidesFit t.members low e.set e.right → e.first < t.rows → e.second < t.rows
        → agree_right (view cat e.target) e.right e.first e.second
        ≡ agree_right (view_by t) e.right e.first e.second
    right_same h p q = keyed_right keyed e.right e.first e.second (at h.1) p q
      where
        at : (e.right ≡ row) ⊎ ((low ≤ e.right) × (e.right < t.members))
            → (e.right ≡ row) ⊎ ((e.right < t.members) × In e.right (2 ^ t.members - 1))
        at (inl r) = inl r
        at (inr b) = inr (b.1, bit_full t.members e.right b.1)

    -- the right is not in the set where the rows agree on the one and not on the other
    outside : SidesFit t.members low e.set e.right → AgreeOn (view_by t) e.set e.first e.second
        → (T (agree_right (view_by t) e.right e.first e.second) → ⊥) → In e.right e.set → ⊥
    outside sides agree disagree i =
        let l = member_below t.members e.set e.right sides.0 i in
        disagree (subst T (by_column t.keys.now e.right e.first e.second (λ r. omega (arith, l, t.few, r)))
        (agree e.right l i))

    -- the sides fit the target exactly if they fit the keys
    fits_table : SidesFit t.members low e.set e.right
        → SidesFit (visible cat e.target) (inherited cat e.target) e.set e.right
    fits_table h =
        subst (λ (k : ℕ). SidesFit (visible cat e.target) k e.set e.right) el
        (subst (λ (k : ℕ). SidesFit k low e.set e.right) (sym keyed.members) h)

    fits_keys : SidesFit (visible cat e.target) (inherited cat e.target) e.set e.right
        → SidesFit t.members low e.set e.right
    fits_keys h =
        subst (λ (k : ℕ). SidesFit k low e.set e.right) keyed.members
        (subst (λ (k : ℕ). SidesFit (visible cat e.target) k e.set e.right) (sym el) h)

    true_by : TrueBy t low e ↔ TrueRecord cat e
    true_by = (
      λ h.
          let w = fits_table h.sides in
          record {
            allowed = (sides_own cat e.target e.set e.right).1 (known, w.0, w.1);
            first_exists = subst (λ (k : ℕ). e.first < k) (sym keyed.rows) h.first;
            second_exists = subst (λ (k : ℕ). e.second < k) (sym keyed.rows) h.second;
            outside = outside h.sides h.agree h.disagree;
            agree = (set_same h.first h.second).1 h.agree;
            disagree = λ d. h.disagree (subst T (right_same h.sides h.first h.second) d);
          },
      λ h.
          let w = (sides_own cat e.target e.set e.right).0 h.allowed in
          let sides = fits_keys (w.1, w.2) in
          let first : e.first < t.rows = subst (λ (k : ℕ). e.first < k) keyed.rows h.first_exists in
          let second : e.second < t.rows = subst (λ (k : ℕ). e.second < k) keyed.rows h.second_exists in
          record {
            sides = sides;
            first = first;
            second = second;
            agree = (set_same first second).0 h.agree;
            disagree = λ d. h.disagree (subst T (sym (right_same sides first second)) d);
          },
    )

  -- and so are all records of a target
  pub all_true_by : (target : ℕ) (rs : List Evidence) → target < tables cat → low ≡ inherited cat target
      → KeyedBy (view cat target) t → AllTrueBy t low target rs ↔ AllTrue cat target rs
  all_true_by target rs known el keyed = (
    λ h e m is. (here e is).0 (h e m is),
    λ h e m is. (here e is).1 (h e m is),
  )
    where
      here : (e : Evidence) → e.target ≡ target → TrueBy t low e ↔ TrueRecord cat e
      here e is =
          true_by e (subst (λ (k : ℕ). k < tables cat) (sym is) known)
          (subst (λ (k : ℕ). low ≡ inherited cat k) (sym is) el)
          (subst (λ (k : ℕ). KeyedBy (view cat k) t) (sym is) keyed)
