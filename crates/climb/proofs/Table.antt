-- The numbers of a table by where it stands and how many columns it has, as a climb reads them: its cells, its parent
-- and parent rows, which stand within the bytes, and how many of the columns visible there its ancestors have.
use Prim.Native.Nat.{ℕ, ◌+◌, ◌-◌, ◌*◌, ◌≤◌, ◌<◌}
use mathlib.Core.Path.{◌≡◌, ap, ap₂, ◌∙◌}
use mathlib.Core.List.{List}
use native.Mathlib.Omega.{arith}
use lib.ListN.{length}
use Rattle.model.specs.Bytes.{u16_at, u32_at}
use Rattle.model.specs.Catalogue
use Rattle.model.specs.Catalogue.{tables, trailer, table_at, columns, parent, rows, row_at, parent_row, cell, visible, inherited}
use Rattle.model.specs.Check.{Accepted}
use Rattle.model.proofs.Climb.{inherited_own}
use Rattle.climb.proofs.Within.{entry_within, head_within, row_within}

-- where a table stands and how many columns it has, by the numbers read for them
pub table_read : (cat : List ℕ) (at : ℕ) {first o : ℕ} → first ≡ trailer cat → o ≡ u32_at cat (first + 4 * at)
    → o ≡ table_at cat at
unfolding table_at
table_read cat at e f = f ∙ ap (λ (x : ℕ). u32_at cat (x + 4 * at)) e

pub columns_read : (cat : List ℕ) (at : ℕ) {o c : ℕ} → o ≡ table_at cat at → c ≡ u16_at cat o → c ≡ columns cat at
unfolding columns
columns_read cat at e f = f ∙ ap (u16_at cat) e

pub entry_read : (cat : List ℕ) {at first : ℕ} → Accepted cat → at < tables cat → first ≡ trailer cat
    → first + 4 * at + 4 ≤ length cat
entry_read cat {at} ok h e = omega (arith, entry_within cat ok at h)

pub head_read : (cat : List ℕ) {at first o : ℕ} → Accepted cat → at < tables cat → first ≡ trailer cat
    → o ≡ u32_at cat (first + 4 * at) → o + 6 ≤ length cat
head_read cat {at} ok h e f = omega (arith, table_read cat at e f, head_within cat ok at h)

module _ (cat : List ℕ) (at : ℕ) {o c : ℕ} (e : o ≡ table_at cat at) (f : c ≡ columns cat at) where
  pub cell_at : (x i : ℕ) → u32_at cat (o + 6 + x * (2 + 4 * c) + 2 + 4 * i) ≡ cell cat at x i
  unfolding cell row_at
  cell_at x i = ap₂ (λ (o c : ℕ). u32_at cat (o + 6 + x * (2 + 4 * c) + 2 + 4 * i)) e f

  pub parent_at : (up : ℕ) → up ≡ u16_at cat (o + 2) → up ≡ parent cat at
  unfolding Catalogue.parent
  parent_at up g = g ∙ ap (λ (o : ℕ). u16_at cat (o + 2)) e

  pub parent_row_at : (x : ℕ) → u16_at cat (o + 6 + x * (2 + 4 * c)) ≡ parent_row cat at x
  unfolding parent_row row_at
  parent_row_at x = ap₂ (λ (o c : ℕ). u16_at cat (o + 6 + x * (2 + 4 * c))) e f

  pub row_within_at : Accepted cat → (x : ℕ) → at < tables cat → x < rows cat at
      → o + 6 + x * (2 + 4 * c) + (2 + 4 * c) ≤ length cat
  row_within_at ok x h l = omega (arith, ap₂ (λ (o c : ℕ). o + 6 + x * (2 + 4 * c)) e f, row_within cat ok at x h l)

  -- of the columns visible there, its own are the last
  pub own_visible : (above : ℕ) → above ≡ visible cat at → c ≤ above
  own_visible above g = omega (arith, inherited_own cat at)

  pub rest_inherited : (above : ℕ) → above ≡ visible cat at → above - c ≡ inherited cat at
  unfolding inherited
  rest_inherited above g = omega arith
