-- The climb from a row of a target to the root that gathers the cells present in it: how far it has come, and what each
-- table adds.
use Prim.Native.Nat.{ℕ, ◌+◌, ◌-◌, ◌*◌, ◌^◌, ◌≤◌, ◌<◌}
use mathlib.Core.Path.{◌≡◌, refl, sym, ap, ap₂, subst, ◌∙◌}
use mathlib.Core.Bool.{not}
use mathlib.Core.List.{List}
use native.Mathlib.Omega.{arith}
use lib.Dec.{eqb}
use lib.ListN.{length}
use lib.Pow.{pow_mono}
use Rattle.columns.specs.Bound.{column_bound}
use Rattle.columns.specs.Set.{set_below}
use Rattle.columns.proofs.SetBelow.{set_below_same, set_below_split, set_below_lt}
use Rattle.model.specs.Bounds.{missing}
use Rattle.model.specs.Bytes.{u16_at, u32_at}
use Rattle.model.specs.Catalogue.{tables, trailer, table_at, columns, parent, rows, visible, inherited}
use Rattle.model.specs.Check.{Accepted}
use Rattle.model.specs.Target.{present_at, view}
use Rattle.model.proofs.Check.{accepted_parent, accepted_visible, accepted_row}
use Rattle.model.proofs.Ancestors.{present_own, present_above, inherited_root, inherited_step}
use Rattle.table.specs.Backed.{present_set_of}
use Rattle.climb.proofs.Table.{table_read, columns_read, cell_at, parent_at, parent_row_at, row_within_at, own_visible, rest_inherited}
use Rattle.presence.specs.Cells.{present_cell}

-- row p of table t leads to a row of table `at`, with so many columns visible there, whose cells it has as that row
-- does; and the cells present from there on are in the set, the first of them as its member 0
pub record Climbing (cat : List ℕ) (t p at row above set : ℕ) : Type 0 where
  pub table : at < tables cat
  pub left : above ≡ visible cat at
  pub some : above ≤ visible cat t
  pub exists : row < rows cat at
  pub same : (k : ℕ) → k < above → present_at cat t k p ≡ present_at cat at k row
  pub joined : set ≡ set_below (visible cat t - above) (λ i. present_at cat t (above + i) p)

pub climbing_begun : (cat : List ℕ) (t n p : ℕ) → t < tables cat → n ≡ visible cat t → p < rows cat t
    → Climbing cat t p t p n 0
unfolding set_below
climbing_begun cat t n p h e l =
    let none : visible cat t - n ≡ 0 = omega arith in
    record {
      table = h;
      left = e;
      some = omega arith;
      exists = l;
      same = λ k i. refl;
      joined = sym (ap (λ (m : ℕ). set_below m (λ i. present_at cat t (n + i) p)) none);
    }

module _ (cat : List ℕ) (ok : Accepted cat) (t : ℕ) (target : t < tables cat) {p at row above set : ℕ}
    (h : Climbing cat t p at row above set) {first o c : ℕ} (u : first ≡ trailer cat)
    (v : o ≡ u32_at cat (first + 4 * at)) (w : c ≡ u16_at cat o) where
  e : o ≡ table_at cat at
  e = table_read cat at u v

  f : c ≡ columns cat at
  f = columns_read cat at e w

  -- the own columns of the table are the last of those left
  pub own_left : c ≤ above
  own_left = own_visible cat at e f above h.left

  pub few_left : above ≤ column_bound
  few_left = omega (arith, accepted_visible cat ok at h.table, h.left)

  pub set_small : set < 2 ^ column_bound
  set_small =
      let few : visible cat t - above ≤ column_bound = omega (arith, accepted_visible cat ok t target) in
      omega (
        arith,
        h.joined,
        set_below_lt (visible cat t - above) (λ i. present_at cat t (above + i) p),
        pow_mono few,
      )

  pub here_within : o + 6 + row * (2 + 4 * c) + (2 + 4 * c) ≤ length cat
  here_within = row_within_at cat at e f ok row h.table h.exists

  left_inherited : above - c ≡ inherited cat at
  left_inherited = rest_inherited cat at e f above h.left

  -- a cell of the row reached is that of the member
  own_present : (i : ℕ) → i < c
      → present_cell cat (o + 6 + row * (2 + 4 * c) + 2) i ≡ present_at cat t (above - c + i) p
  own_present i l =
      ap (λ (x : ℕ). not (eqb x missing)) (cell_at cat at e f row i)
      ∙ sym (present_own cat at i row)
      ∙ ap (λ (k : ℕ). present_at cat at (k + i) row) (sym left_inherited)
      ∙ sym (h.same (above - c + i) (omega (arith, own_left)))

  -- with them, the members from the first of them on are in the set
  module _ {r : ℕ} (g : r ≡ set_below c (present_cell cat (o + 6 + row * (2 + 4 * c) + 2)) + 2 ^ c * set) where
    pub joined_more : r ≡ set_below (visible cat t - (above - c)) (λ i. present_at cat t (above - c + i) p)
    joined_more =
        g
        ∙ ap₂ (λ (x y : ℕ). x + 2 ^ c * y)
        (set_below_same c (present_cell cat (o + 6 + row * (2 + 4 * c) + 2)) (λ i. present_at cat t (above - c + i) p)
        own_present)
        (h.joined ∙ set_below_same (visible cat t - above) (λ i. present_at cat t (above + i) p)
        (λ i. present_at cat t (above - c + (c + i)) p) (λ i l. ap (λ (k : ℕ). present_at cat t k p) (further i)))
        ∙ sym (set_below_split c (visible cat t - above) (λ i. present_at cat t (above - c + i) p))
        ∙ ap (λ (m : ℕ). set_below m (λ i. present_at cat t (above - c + i) p)) wider
      where
        further : (i : ℕ) → above + i ≡ above - c + (c + i)
        further i = omega (arith, own_left)

        wider : c + (visible cat t - above) ≡ visible cat t - (above - c)
        wider = omega (arith, own_left, h.some)

    -- nothing is left: these are all
    pub climbing_done : above - c ≡ 0 → r ≡ present_set_of (view cat t) p
    climbing_done z =
        joined_more
        ∙ ap (λ (a : ℕ). set_below (visible cat t - a) (λ i. present_at cat t (a + i) p)) z
        ∙ ap (λ (m : ℕ). set_below m (λ i. present_at cat t (0 + i) p)) all
        ∙ set_below_same (visible cat t) (λ i. present_at cat t (0 + i) p) (λ i. present_at cat t i p)
        (λ i l. ap (λ (k : ℕ). present_at cat t k p) (none_more i))
      where
        all : visible cat t - 0 ≡ visible cat t
        all = omega arith

        none_more : (i : ℕ) → 0 + i ≡ i
        none_more i = omega arith

    -- some are: the table is not the root, and the climb goes on from its parent
    not_root : (above - c ≡ 0 → ⊥) → at ≡ 0 → ⊥
    not_root some z = some (left_inherited ∙ inherited_root cat ok at z)

    has_parent : (above - c ≡ 0 → ⊥) → 0 < at
    has_parent some = let n = not_root some in omega arith

    pub parent_lower : (up : ℕ) → up ≡ u16_at cat (o + 2) → (above - c ≡ 0 → ⊥) → up < at
    parent_lower up u some =
        omega (arith, parent_at cat at e f up u, accepted_parent cat ok at h.table (has_parent some))

    pub climbing_next : (up next : ℕ) → (above - c ≡ 0 → ⊥) → up ≡ u16_at cat (o + 2)
        → next ≡ u16_at cat (o + 6 + row * (2 + 4 * c)) → Climbing cat t p up next (above - c) r
    climbing_next up next some u v =
        let n = not_root some in
        let leads = v ∙ parent_row_at cat at e f row in
        subst (λ (up : ℕ). Climbing cat t p up next (above - c) r) (sym (parent_at cat at e f up u))
        (subst (λ (next : ℕ). Climbing cat t p (parent cat at) next (above - c) r) (sym leads) (record {
          table = omega (arith, accepted_parent cat ok at h.table (has_parent some), h.table);
          left = left_inherited ∙ inherited_step cat ok at h.table n;
          some = omega (arith, h.some);
          exists = accepted_row cat ok at h.table (has_parent some) row h.exists;
          same = λ k l.
              h.same k (omega arith) ∙ present_above cat ok at k h.table (omega (arith, left_inherited)) row;
          joined = joined_more;
        }))
