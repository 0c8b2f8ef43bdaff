-- Which targets and sides 8 to 10 allow, and sets of a target's columns among sets of more.
use Prim.Native.Nat.{ℕ, ◌^◌, ◌≤◌, ◌<◌}
use mathlib.Core.Path.{◌≡◌, sym, ◌∙◌}
use mathlib.Core.Logic.{◌⊎◌, inl, inr, ◌↔◌}
use mathlib.Core.List.{List, Memᴰ}
use native.Mathlib.Decide.{ℕ_discrete}
use native.Mathlib.Omega.{arith}
use lib.Pow.{pow_mono}
use Rattle.columns.specs.Test.{if_eq, if_lt}
use Rattle.columns.proofs.Test.{if_eq_yes, if_eq_no, if_lt_yes, if_lt_no}
use Rattle.model.specs.Bounds.{row}
use Rattle.model.specs.Catalogue.{tables, visible, inherited}
use Rattle.model.specs.Refusal.{number}
use Rattle.model.specs.declared.Refusal.TheVariants.{UnknownTable, UnknownColumn, UnknownRight}
use Rattle.model.specs.Question.{target_code, left_side_code, right_side_code, sides_code}
use Rattle.model.specs.Listing.{ordinary, rights_of}
use Rattle.model.specs.Contains.{EntryFor}
use Rattle.model.specs.Verify.{RecordFor}
use Rattle.model.specs.declared.Entry.{Entry}
use Rattle.model.specs.declared.Evidence.{Evidence}
use Rattle.model.proofs.Grounds.{or_else_both, or_else_none, if_lt_passes, if_lt_fails}
use Rattle.model.proofs.Rights.{right_is}
use Rattle.evidence.specs.Lists.{Each}
use Rattle.evidence.specs.Sides.{LeftsWithin, SetsWithin}

-- sets of n columns are sets of m: of the entries and the records for a target and a right
pub lefts_narrow : (n m target right : ℕ) (es : List Entry) → n ≤ m → LeftsWithin n target es
    → Each (λ e. EntryFor target right e → e.left < 2 ^ m) es
lefts_narrow n m target right es h within e i is =
    omega (arith, within e i is.0, pow_mono {i = n} {j = m} h)

pub sets_narrow : (n m target right : ℕ) (rs : List Evidence) → n ≤ m → SetsWithin n target rs
    → Each (λ e. RecordFor target right e → e.set < 2 ^ m) rs
sets_narrow n m target right rs h within e i is =
    omega (arith, within e i is.0, pow_mono {i = n} {j = m} h)

module _ (cat : List ℕ) (target : ℕ) where
  -- a right side: the row, or an own column by its visible number
  abbrev pub OwnRight : ℕ → Type 0
  OwnRight a = (a ≡ row) ⊎ ((inherited cat target ≤ a) × (a < visible cat target))

  -- 8, 9 and 10 apart
  pub target_is : (target_code cat target ≡ 0) ↔ (target < tables cat)
  unfolding target_code
  target_is = (
    λ e. if_lt_passes target (tables cat) 0 (number UnknownTable) (omega arith) e,
    λ l. if_lt_yes (number UnknownTable) l,
  )

  pub left_side_is : (x : ℕ) → (left_side_code cat target x ≡ 0) ↔ (x < 2 ^ visible cat target)
  unfolding left_side_code
  left_side_is x = (
    λ e. if_lt_passes x (2 ^ visible cat target) 0 (number UnknownColumn) (omega arith) e,
    λ l. if_lt_yes (number UnknownColumn) l,
  )

  pub right_side_is : (a : ℕ) → (right_side_code cat target a ≡ 0) ↔ OwnRight a
  unfolding right_side_code
  right_side_is a = (λ e. there e (ℕ_discrete a row), back)
    where
      own : ℕ
      own = if_lt a (inherited cat target) (number UnknownRight) (if_lt a (visible cat target) 0 (number UnknownRight))

      there : if_eq a row 0 own ≡ 0 → Dec (a ≡ row) → OwnRight a
      there e (yes q) = inl q
      there e (no q) =
          let f : own ≡ 0 = sym (if_eq_no 0 q) ∙ e in
          let g = if_lt_fails a (inherited cat target) _ (number UnknownRight) (omega arith) f in
          inr (
            g,
            if_lt_passes a (visible cat target) 0 (number UnknownRight) (omega arith)
                (sym (if_lt_no (number UnknownRight) g) ∙ f),
          )

      back : OwnRight a → if_eq a row 0 own ≡ 0
      back (inl q) = if_eq_yes own q
      back (inr w) = at (ℕ_discrete a row)
        where
          at : Dec (a ≡ row) → if_eq a row 0 own ≡ 0
          at (yes q) = if_eq_yes own q
          at (no q) = if_eq_no 0 q ∙ if_lt_no (number UnknownRight) w.0 ∙ if_lt_yes (number UnknownRight) w.1

  -- a right side is one of the ordinary listing's
  pub own_right_is : (a : ℕ) → OwnRight a ↔ Memᴰ a (rights_of (ordinary cat) target)
  own_right_is a = (λ w. (right_is cat target a).1 (turned w), λ m. back ((right_is cat target a).0 m))
    where
      turned : OwnRight a → ((inherited cat target ≤ a) × (a < visible cat target)) ⊎ (a ≡ row)
      turned (inl q) = inr q
      turned (inr w) = inl w

      back : ((inherited cat target ≤ a) × (a < visible cat target)) ⊎ (a ≡ row) → OwnRight a
      back (inl w) = inr w
      back (inr q) = inl q

  -- none of the three
  pub sides_own : (x a : ℕ) → (sides_code cat target x a ≡ 0)
      ↔ ((target < tables cat) × (x < 2 ^ visible cat target) × OwnRight a)
  unfolding sides_code
  sides_own x a = (
    λ e.
        let first = or_else_both (target_code cat target) _ e in
        let rest = or_else_both (left_side_code cat target x) (right_side_code cat target a) first.1 in
        (target_is.0 first.0, (left_side_is x).0 rest.0, (right_side_is a).0 rest.1),
    λ w. or_else_none (target_is.1 w.0) (or_else_none ((left_side_is x).1 w.1) ((right_side_is a).1 w.2)),
  )

  pub sides_is : (x a : ℕ) → (sides_code cat target x a ≡ 0)
      ↔ ((target < tables cat) × (x < 2 ^ visible cat target) × Memᴰ a (rights_of (ordinary cat) target))
  sides_is x a = (
    λ e. let w = (sides_own x a).0 e in (w.0, w.1, (own_right_is a).0 w.2),
    λ w. (sides_own x a).1 (w.0, w.1, (own_right_is a).1 w.2),
  )
