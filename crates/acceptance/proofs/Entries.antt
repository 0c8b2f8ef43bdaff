-- A list without a ground under 15: it is in listing order, and where 8 to 10 allow an entry, its right is not in its
-- left.
use Prim.Native.Nat.{ℕ, ◌^◌, ◌≤◌, ◌<◌}
use mathlib.Core.Path.{◌≡◌, sym, ap, subst, ◌∙◌}
use mathlib.Core.Logic.{inl, inr, ⊎_elim}
use mathlib.Core.List.Memᴰ
use mathlib.Core.List.{List, [], ◌∷◌, Memᴰ}
use mathlib.Core.Bool.{Bool}
use native.Mathlib.Omega.{arith}
use Rattle.columns.specs.Bound.{column_bound}
use Rattle.columns.specs.Test.{pick}
use Rattle.columns.proofs.Bits.{bit_member}
use Rattle.columns.proofs.Test.{if_eq_no}
use Rattle.model.specs.Bounds.{table_bound, row}
use Rattle.model.specs.Catalogue.{tables, visible}
use Rattle.model.specs.Check.{Accepted}
use Rattle.model.specs.Refusal.{number}
use Rattle.model.specs.View.{In}
use Rattle.model.specs.Question.{sides_code}
use Rattle.model.specs.Entry.{Earlier, Ordered}
use Rattle.model.specs.Entries.{entry_code, later_code, rest_code, entries_code}
use Rattle.model.specs.declared.Entry.{Entry}
use Rattle.model.specs.declared.Refusal.TheVariants.{BadEntry}
use Rattle.model.proofs.Grounds.{or_else_both}
use Rattle.model.proofs.Check.{accepted_visible}
use Rattle.model.proofs.Contains.{row_outside}
use Rattle.model.proofs.Earlier.{earlier_transitive}
use Rattle.entries.proofs.Checks.{bad_some}
use Rattle.entries.proofs.Grounds.{no_le}
use Rattle.evidence.proofs.Sides.{OwnRight, sides_own}
use Rattle.packed.proofs.Order.{later}

-- each entry stands before the next, so before every later one
rest_ordered : (e : Entry) (es : List Entry) → rest_code e es ≡ 0 → Ordered (e ∷ es)
unfolding rest_code
rest_ordered e [] h = (λ f m. absurd (Memᴰ.not-nil m), tt)
rest_ordered e (f ∷ fs) h =
    let q = or_else_both (later_code e f) (rest_code f fs) (or_else_both (entry_code f) _ h).1 in
    let l = later e f q.0 in
    let o = rest_ordered f fs q.1 in (
      λ g m.
          ⊎_elim (λ (p : g ≡ f). subst (λ (d : Entry). Earlier e d) (sym p) l)
          (λ (n : Memᴰ g fs). earlier_transitive e f g l (o.0 g n)) (Memᴰ.cases_cons m),
      o,
    )

pub entries_ordered : (es : List Entry) → entries_code es ≡ 0 → Ordered es
unfolding entries_code
entries_ordered [] h = tt
entries_ordered (e ∷ es) h = rest_ordered e es (or_else_both (entry_code e) (rest_code e es) h).1

-- no entry has a ground
rest_each : (e : Entry) (es : List Entry) → rest_code e es ≡ 0 → (f : Entry) → Memᴰ f es → entry_code f ≡ 0
unfolding rest_code
rest_each e [] h f m = absurd (Memᴰ.not-nil m)
rest_each e (g ∷ gs) h f m =
    let p = or_else_both (entry_code g) _ h in
    let q = or_else_both (later_code e g) (rest_code g gs) p.1 in
    ⊎_elim (λ (r : f ≡ g). subst (λ (d : Entry). entry_code d ≡ 0) (sym r) p.0)
    (λ (n : Memᴰ f gs). rest_each g gs q.1 f n) (Memᴰ.cases_cons m)

pub entries_each : (es : List Entry) → entries_code es ≡ 0 → (f : Entry) → Memᴰ f es → entry_code f ≡ 0
unfolding entries_code
entries_each [] h f m = absurd (Memᴰ.not-nil m)
entries_each (e ∷ es) h f m =
    let p = or_else_both (entry_code e) (rest_code e es) h in
    ⊎_elim (λ (r : f ≡ e). subst (λ (d : Entry). entry_code d ≡ 0) (sym r) p.0)
    (λ (n : Memᴰ f es). rest_each e es p.1 f n) (Memᴰ.cases_cons m)

-- a column on the right is not in the left
column_outside : (e : Entry) → entry_code e ≡ 0 → e.right < column_bound → In e.right e.left → ⊥
unfolding entry_code
column_outside e h l i =
    let n : e.right ≡ row → ⊥ = omega arith in
    let r = sym (if_eq_no 0 n) ∙ (no_le table_bound e.target (number BadEntry) _ bad_some h).1 in
    let s = (no_le column_bound e.right (number BadEntry) _ bad_some r).1 in
    bad_some
    (sym (ap (λ (t : Bool). pick t (number BadEntry) 0) (bit_member e.left e.right l i)) ∙ s)

-- nor is the row: it is above every column
pub right_outside : (cat : List ℕ) → Accepted cat → (e : Entry) → entry_code e ≡ 0
    → sides_code cat e.target e.left e.right ≡ 0 → In e.right e.left → ⊥
right_outside cat ok e fine allowed i = at w.2
  where
    w : (e.target < tables cat) × (e.left < 2 ^ visible cat e.target) × OwnRight cat e.target e.right
    w = (sides_own cat e.target e.left e.right).0 allowed

    few : visible cat e.target ≤ column_bound
    few = accepted_visible cat ok e.target w.0

    at : OwnRight cat e.target e.right → ⊥
    at (inl p) =
        row_outside (visible cat e.target) e.left few w.1 (subst (λ (a : ℕ). In a e.left) p i)
    at (inr l) =
        let b = l.1 in
        column_outside e fine (omega (arith, few)) i
