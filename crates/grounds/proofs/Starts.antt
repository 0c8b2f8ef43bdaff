-- Where the next row starts and what its code is, where a table must start, and where the last one ends.
use Prim.Native.Nat.{ℕ, zero, suc, ◌+◌, ◌-◌, ◌*◌}
use mathlib.Core.Path.{◌≡◌, refl, ap, ap₂, ◌∙◌}
use mathlib.Core.List.{List}
use native.Mathlib.Omega.{arith}
use Rattle.columns.specs.Test.{if_eq, if_lt}
use Rattle.model.specs.Bounds.{no_parent}
use Rattle.model.specs.Bytes.{u16_at}
use Rattle.model.specs.Refusal.{number}
use Rattle.model.specs.declared.Refusal.TheVariants.{BadParentRow}
use Rattle.model.specs.Catalogue.{tables, columns, parent, rows, row_at, parent_row, table_end}
use Rattle.model.specs.Check.{start_of, row_code}

-- where a row starts: so many rows' widths behind the first
pub row_start : (cat : List ℕ) (i k : ℕ) {first c : ℕ} → first ≡ row_at cat i 0 → c ≡ columns cat i
    → first + k * (2 + 4 * c) ≡ row_at cat i k
unfolding row_at
row_start cat i k e q = rw (e, q) (omega arith)

-- 7 of a row, from the numbers that are read
pub row_code_is : (cat : List ℕ) (i k : ℕ) {r up above p at : ℕ}
    → r ≡ if_eq i 0 (if_eq up no_parent 0 (number BadParentRow)) (if_lt up above 0 (number BadParentRow))
    → up ≡ u16_at cat at → at ≡ row_at cat i k → above ≡ rows cat p → p ≡ parent cat i → r ≡ row_code cat i k
unfolding row_code parent_row
row_code_is cat i k e u a v q =
    e ∙ ap₂ (λ (x y : ℕ). if_eq i 0 (if_eq x no_parent 0 (number BadParentRow)) (if_lt x y 0 (number BadParentRow)))
    (u ∙ ap (u16_at cat) a) (v ∙ ap (rows cat) q)

-- where a table must start
pub start_first : (cat : List ℕ) (i : ℕ) → i ≡ 0 → 0 ≡ start_of cat i
unfolding start_of
start_first cat zero e = refl
start_first cat (suc i) e = omega arith

pub start_after : (cat : List ℕ) (i : ℕ) → (i ≡ 0 → ⊥) → table_end cat (i - 1) ≡ start_of cat i
unfolding start_of
start_after cat zero n = absurd (n refl)
start_after cat (suc i) n =
    let one_less : suc i - 1 ≡ i = omega arith in
    ap (λ (j : ℕ). table_end cat j) one_less

-- the end of the last table, from the numbers that are read
pub last_end : (cat : List ℕ) {n l e : ℕ} → n ≡ tables cat → l ≡ n - 1 → e ≡ table_end cat l
    → e ≡ table_end cat (tables cat - 1)
last_end cat p q r = r ∙ ap (table_end cat) (q ∙ ap (λ (m : ℕ). m - 1) p)
