-- The walk that lays the keys of a target, table by table up to the root: how far it has come, and what each table
-- adds.
use Prim.Native.Nat.{ℕ, ◌+◌, ◌-◌, ◌*◌, ◌%◌, ◌^◌, ◌≤◌, ◌<◌}
use mathlib.Core.Path.{◌≡◌, sym, ap, ap₂, subst, ◌∙◌}
use mathlib.Core.List.{List}
use native.Mathlib.Decide.{dec_lt}
use native.Mathlib.Omega.{arith}
use lib.ListN.{length, get_or}
use Rattle.columns.specs.Bound.{column_bound}
use Rattle.columns.specs.Set.{bit}
use Rattle.columns.proofs.Bits.{bit_below}
use Rattle.model.specs.Bounds.{row_bound}
use Rattle.model.specs.Bytes.{u16_at, u32_at}
use Rattle.model.specs.Catalogue.{tables, trailer, table_at, columns, parent, rows, parent_row, cell, visible, inherited}
use Rattle.model.specs.Check.{Accepted}
use Rattle.model.specs.View.{View, In, agree_on}
use Rattle.model.specs.Target.{cells_agree, agree_at, view}
use Rattle.model.proofs.Truth.{same_test}
use Rattle.model.proofs.View.{agree_on_is}
use Rattle.model.proofs.Check.{accepted_parent, accepted_visible, accepted_row}
use Rattle.model.proofs.Ancestors.{agree_own, agree_above, inherited_root, inherited_step}
use Rattle.table.proofs.Bits.{bit_none}
use Rattle.leaders.specs.Leaders.{leader_of}
use Rattle.leaders.specs.Keys.{keys_size, key_at, LaidFor}
use Rattle.model.proofs.First.{first_from_same}
use Rattle.leaders.proofs.Keys.{agree_on_one}
use Rattle.filled.specs.Filled.{Filled}
use Rattle.filled.proofs.Filled.{filled_first}
use Rattle.climb.proofs.Table.{table_read, columns_read, cell_at, parent_at, parent_row_at, row_within_at, own_visible, rest_inherited}
use Rattle.keys.specs.Column.{code_of, agree_by, leader_by, LaidTable}

-- the rows of table t lead to rows of table `at`, with so many columns visible there, on which they agree as the rows
-- reached do; and the members of the set from there on are laid
pub record Laying (cat : List ℕ) (t set at above : ℕ) (reached keys : List ℕ) : Type 0 where
  pub table : at < tables cat
  pub left : above ≡ visible cat at
  pub some : above ≤ visible cat t
  pub wide : length reached ≡ row_bound
  pub long : length keys ≡ keys_size
  pub exists : (q : ℕ) → q < rows cat t → get_or reached q 0 < rows cat at
  pub agree : (k p q : ℕ) → k < above → p < rows cat t → q < rows cat t
      → agree_at cat t k p q ≡ agree_at cat at k (get_or reached p 0) (get_or reached q 0)
  pub laid : (k q : ℕ) → above ≤ k → k < visible cat t → In k set → q < rows cat t
      → key_at keys k q ≡ leader_of (view cat t) (2 ^ k) q

pub laying_begun : (cat : List ℕ) (t n set end : ℕ) (before reached keys : List ℕ) → t < tables cat → n ≡ visible cat t
    → end ≡ rows cat t → length before ≡ row_bound → length keys ≡ keys_size → Filled 0 end (λ q. q) before reached
    → Laying cat t set t n reached keys
laying_begun cat t n set end before reached keys h e f wide long put = record {
  table = h;
  left = e;
  some = omega arith;
  wide = put.same_length ∙ wide;
  long = long;
  exists = λ q l. omega (arith, own q l);
  agree = λ k p q l lp lq. ap₂ (agree_at cat t k) (sym (own p lp)) (sym (own q lq));
  laid = λ k q l m. absurd (omega arith);
}
  where
    own : (q : ℕ) → q < rows cat t → get_or reached q 0 ≡ q
    own q l = filled_first put q (omega arith)

-- to agree on the left side of one member, as a test
agree_on_member : (v : View) (k p q : ℕ) → k < v.members → agree_on v (2 ^ k) p q ≡ v.agree k p q
agree_on_member v k p q l =
    let one = agree_on_one v k p q l in
    let on = agree_on_is v (2 ^ k) p q in
    same_test (agree_on v (2 ^ k) p q) (v.agree k p q) (λ t. one.0 (on.0 t)) (λ t. on.1 (one.1 t))

-- the code of row x in column i of a table is that of its cell
code_at : (cat : List ℕ) (at o c i x : ℕ) → o ≡ table_at cat at → c ≡ columns cat at
    → code_of cat (o + 8 + 4 * i) (2 + 4 * c) x ≡ cell cat at x i
code_at cat at o c i x e f =
    let g : o + 8 + 4 * i + x * (2 + 4 * c) ≡ o + 6 + x * (2 + 4 * c) + 2 + 4 * i = omega arith in
    ap (u32_at cat) g ∙ cell_at cat at e f x i

-- rows compared on own column i of a table, by the rows of it that they lead to
agree_by_lem : (cat : List ℕ) (at o c i : ℕ) (reached : List ℕ) (p q : ℕ) → o ≡ table_at cat at → c ≡ columns cat at
    → agree_by cat (o + 8 + 4 * i) (2 + 4 * c) reached p q
    ≡ agree_at cat at (inherited cat at + i) (get_or reached p 0) (get_or reached q 0)
unfolding agree_by
agree_by_lem cat at o c i reached p q e f =
    ap₂ (cells_agree (get_or reached p 0) (get_or reached q 0)) (code_at cat at o c i (get_or reached p 0) e f)
    (code_at cat at o c i (get_or reached q 0) e f)
    ∙ sym (agree_own cat at i (get_or reached p 0) (get_or reached q 0))

module _ (cat : List ℕ) (ok : Accepted cat) {t set at above : ℕ} {reached keys : List ℕ}
    (h : Laying cat t set at above reached keys)
    {first o c : ℕ} (starts : first ≡ trailer cat) (stands : o ≡ u32_at cat (first + 4 * at))
    (wide : c ≡ u16_at cat o) where
  e : o ≡ table_at cat at
  e = table_read cat at starts stands

  f : c ≡ columns cat at
  f = columns_read cat at e wide

  -- the own columns of the table are the last of those left
  pub own_left : c ≤ above
  own_left = own_visible cat at e f above h.left

  pub few_left : above ≤ column_bound
  few_left = omega (arith, accepted_visible cat ok at h.table, h.left)

  left_inherited : above - c ≡ inherited cat at
  left_inherited = rest_inherited cat at e f above h.left

  -- the rows reached stand within the bytes
  pub rows_within : (q : ℕ) → q < rows cat t → o + 6 + get_or reached q 0 * (2 + 4 * c) + (2 + 4 * c) ≤ length cat
  rows_within q l = row_within_at cat at e f ok (get_or reached q 0) h.table (h.exists q l)

  -- a leader by an own column of the table is one by the member that it is
  own_leader : (i q : ℕ) → i < c → q < rows cat t
      → leader_by cat (o + 8 + 4 * i) (2 + 4 * c) reached q ≡ leader_of (view cat t) (2 ^ (above - c + i)) q
  unfolding leader_by leader_of
  own_leader i q li lq =
      first_from_same (λ p. agree_by cat (o + 8 + 4 * i) (2 + 4 * c) reached p q)
      (λ p. agree_on (view cat t) (2 ^ (above - c + i)) p q) q 0
      (λ p l m. same p (omega arith))
    where
      same : (p : ℕ) → p < q → agree_by cat (o + 8 + 4 * i) (2 + 4 * c) reached p q
          ≡ agree_on (view cat t) (2 ^ (above - c + i)) p q
      same p l =
          let k : inherited cat at + i ≡ above - c + i = omega (arith, left_inherited) in
          agree_by_lem cat at o c i reached p q e f
          ∙ ap (λ (k : ℕ). agree_at cat at k (get_or reached p 0) (get_or reached q 0)) k
          ∙ sym (h.agree (above - c + i) p q (omega (arith, own_left)) (omega arith) lq)
          ∙ sym (agree_on_member (view cat t) (above - c + i) p q (omega (arith, own_left, h.some)))

  -- with the own columns of the table, the members from the first of them on are laid
  laid_from : (end : ℕ) (after : List ℕ) → end ≡ rows cat t → LaidTable cat o c (above - c) reached end set 0 keys after
      → (k q : ℕ) → above - c ≤ k → k < visible cat t → In k set → q < rows cat t
      → key_at after k q ≡ leader_of (view cat t) (2 ^ k) q
  laid_from end after g m k q lk lv i lq = own (dec_lt k above)
    where
      own : Dec (k < above) → key_at after k q ≡ leader_of (view cat t) (2 ^ k) q
      own (yes l) =
          let n : above - c + (k - (above - c)) ≡ k = omega arith in
          subst (λ (k : ℕ). key_at after k q ≡ leader_of (view cat t) (2 ^ k) q) n
          (m.laid (k - (above - c)) q (omega arith) (omega arith) (subst (λ (k : ℕ). In k set) (sym n) i) (omega arith)
          ∙ own_leader (k - (above - c)) q (omega arith) lq)
      own (no n) = m.kept k q (omega (arith, own_left)) ∙ h.laid k q (omega arith) lv i lq

  -- no member of the set is below: the walk ends
  pub laying_done : (end : ℕ) (after : List ℕ) → end ≡ rows cat t
      → LaidTable cat o c (above - c) reached end set 0 keys after
      → set % 2 ^ (above - c) ≡ 0 → LaidFor (view cat t) set after
  laying_done end after g m none k q lv i lq = either (dec_lt k (above - c))
    where
      either : Dec (k < above - c) → key_at after k q ≡ leader_of (view cat t) (2 ^ k) q
      either (yes l) =
          absurd (omega (arith, sym (bit_below set k (above - c) l) ∙ ap (λ (x : ℕ). bit x k) none ∙ bit_none k, i))
      either (no n) = laid_from end after g m k q (omega arith) lv i lq

  -- some are: the table is not the root, and the walk goes on from its parent
  not_root : (set % 2 ^ (above - c) ≡ 0 → ⊥) → at ≡ 0 → ⊥
  not_root some r =
      let z : set % 2 ^ 0 ≡ 0 =
      omega arith in some (ap (λ (k : ℕ). set % 2 ^ k) (left_inherited ∙ inherited_root cat ok at r) ∙ z)

  has_parent : (set % 2 ^ (above - c) ≡ 0 → ⊥) → 0 < at
  has_parent some = let n = not_root some in omega arith

  pub parent_lower : (up : ℕ) → up ≡ u16_at cat (o + 2) → (set % 2 ^ (above - c) ≡ 0 → ⊥) → up < at
  parent_lower up g some =
      omega (arith, parent_at cat at e f up g, accepted_parent cat ok at h.table (has_parent some))

  pub laying_next : (end up : ℕ) (after moved : List ℕ) → end ≡ rows cat t
      → LaidTable cat o c (above - c) reached end set 0 keys after
      → (set % 2 ^ (above - c) ≡ 0 → ⊥) → up ≡ u16_at cat (o + 2)
      → Filled 0 end (λ q. u16_at cat (o + 6 + get_or reached q 0 * (2 + 4 * c))) reached moved
      → Laying cat t set up (above - c) moved after
  laying_next end up after moved g m some u put =
      let n = not_root some in
      let p = parent_at cat at e f up u in
      subst (λ (up : ℕ). Laying cat t set up (above - c) moved after) (sym p) (record {
        table = omega (arith, accepted_parent cat ok at h.table (has_parent some), h.table);
        left = left_inherited ∙ inherited_step cat ok at h.table n;
        some = omega (arith, h.some);
        wide = put.same_length ∙ h.wide;
        long = m.same_length ∙ h.long;
        exists = λ q l.
            subst (λ (x : ℕ). x < rows cat (parent cat at)) (sym (leads q l))
            (accepted_row cat ok at h.table (has_parent some) (get_or reached q 0) (h.exists q l));
        agree = λ k p q l lp lq.
            h.agree k p q (omega arith) lp lq
            ∙ agree_above cat ok at k h.table (omega (arith, left_inherited)) (get_or reached p 0) (get_or reached q 0)
            ∙ ap₂ (agree_at cat (parent cat at) k) (sym (leads p lp)) (sym (leads q lq));
        laid = laid_from end after g m;
      })
    where
      leads : (q : ℕ) → q < rows cat t → get_or moved q 0 ≡ parent_row cat at (get_or reached q 0)
      leads q l = filled_first put q (omega arith) ∙ parent_row_at cat at e f (get_or reached q 0)
