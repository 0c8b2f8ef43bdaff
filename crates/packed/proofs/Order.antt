-- Entries in listing order are bounded in number: each has a rank among all that may stand in a list, and ranks grow
-- with the order.
use Prim.Native.Nat.{ℕ, ◌+◌, ◌*◌, ◌≤◌, ◌<◌, min}
use mathlib.Core.Path.{◌≡◌, sym, ap, subst}
use mathlib.Core.Logic.{◌⊎◌, inl, inr, ⊎_elim}
use mathlib.Core.List.{List, [], ◌∷◌}
use native.Mathlib.Omega.{arith}
use lib.Dec.{T}
use lib.ListN.{length}
use Rattle.columns.specs.Bound.{column_bound}
use Rattle.columns.proofs.Rank.{rank_of, rank_lt, rank_grows}
use Rattle.model.specs.Bounds.{table_bound, row}
use Rattle.model.specs.Entry.{Earlier, earlier}
use Rattle.model.specs.Refusal.{number, or_else}
use Rattle.model.specs.Entries.{entry_code, later_code, rest_code, entries_code}
use Rattle.model.specs.declared.Entry.{Entry}
use Rattle.model.specs.declared.Refusal.TheVariants.{BadEntry}
use Rattle.packed.specs.Round.{left_sides, right_sides, ranks}
use Rattle.model.proofs.Earlier.{earlier_is}
use Rattle.entries.specs.Small.{Small}
use Rattle.entries.proofs.Checks.{bad_some}
use Rattle.model.proofs.Grounds.{or_else_both}
use Rattle.entries.proofs.Grounds.{no_le, eq_or, picked}

-- what an entry without a ground has
record Fine (e : Entry) : Type 0 where
  target : e.target < table_bound
  right : (e.right ≡ row) ⊎ (e.right < column_bound)

fine : (e : Entry) → entry_code e ≡ 0 → Fine e
unfolding entry_code
fine e h =
    let p = no_le table_bound e.target (number BadEntry) _ bad_some h in
    let q = eq_or e.right row _ p.1 in
    record {
      target = p.0;
      right = ⊎_elim inl (λ a. inr (no_le column_bound e.right (number BadEntry) _ bad_some a).0) q;
    }

-- an entry's rank among all that may stand in a list: by target, then by left in listing order, then by right, the
-- row last
abbrev rank : Entry → ℕ
rank e = e.target * (left_sides * right_sides) + rank_of column_bound e.left * right_sides + min e.right column_bound

-- ranks grow with the order
right_grows : (x y : ℕ) → (x ≡ row) ⊎ (x < column_bound) → (y ≡ row) ⊎ (y < column_bound) → x < y
    → min x column_bound < min y column_bound
right_grows x y (inl a) (inl b) h = omega arith
right_grows x y (inl a) (inr b) h = omega arith
right_grows x y (inr a) (inl b) h = omega arith
right_grows x y (inr a) (inr b) h = omega arith

earlier_rank : (e f : Entry) → Fine e → Fine f → e.left < left_sides → f.left < left_sides → Earlier e f
    → rank e < rank f
earlier_rank e f a b s t (inl l) = omega (arith, rank_lt column_bound e.left s)
earlier_rank e f a b s t (inr (q, inl p)) = omega (arith, rank_grows column_bound e.left f.left s t p)
earlier_rank e f a b s t (inr (q, inr (p, r))) =
    omega (arith, ap (rank_of column_bound) p, right_grows e.right f.right a.right b.right r)

pub later : (e f : Entry) → later_code e f ≡ 0 → Earlier e f
unfolding later_code
later e f h = (earlier_is e f).0 (subst T (sym (picked (earlier e f) (number BadEntry) bad_some h)) tt)

rest_bound : (e : Entry) (es : List Entry) → Fine e → e.left < left_sides → Small es → rest_code e es ≡ 0
    → rank e + length es < ranks
unfolding rest_code
rest_bound e [] a s t h = omega (arith, rank_lt column_bound e.left s, a.target)
rest_bound e (f ∷ fs) a s t h =
    let p = or_else_both (entry_code f) (or_else (later_code e f) (rest_code f fs)) h in
    let q = or_else_both (later_code e f) (rest_code f fs) p.1 in
    let b = fine f p.0 in
    let r = earlier_rank e f a b s t.0 (later e f q.0) in
    let z = rest_bound f fs b t.0 t.1 q.1 in
    omega arith

-- entries without a ground are bounded in number
pub order_bound : (es : List Entry) → Small es → entries_code es ≡ 0 → length es ≤ ranks
unfolding entries_code
order_bound [] s h = omega arith
order_bound (e ∷ es) s h =
    let p = or_else_both (entry_code e) (rest_code e es) h in
    let z = rest_bound e es (fine e p.0) s.0 s.1 p.1 in
    omega arith
