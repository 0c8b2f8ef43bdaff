-- Where the parts of a file stand. `drop p b ≡ x ++ rest` says that x stands at p: then what follows it stands behind
-- it, its parts stand where they are in it, and its numbers are read back.
use Prim.Native.Nat.{ℕ, zero, suc, ◌+◌, ◌*◌, ◌≤◌, ◌<◌}
use mathlib.Core.Path.{◌≡◌, refl, sym, ap, ◌∙◌}
use mathlib.Core.List.{List, [], ◌∷◌, ◌++◌, append_assoc}
use native.Mathlib.Nat.{zero-add, add-zero}
use native.Mathlib.Omega.{arith}
use lib.ListN.{length, get_or, take, drop, length-append}
use lib.Seq.{drop-drop, drop-append_seam, get_or-drop, length-take-le, take-length}
use Rattle.model.specs.Bytes.{u16_at, u32_at, bytes2, bytes4}
use Rattle.model.specs.Encode.{Content, content, head_of, codes_of, row_of, rows_bytes, table_bytes, tables_bytes}
use Rattle.model.specs.Encode.{starts_from}
use Rattle.file.proofs.Numbers.{u16_of_bytes2, u32_of_bytes4}
use Rattle.encoding.specs.Sizes.{EvenRows, start_at}
use Rattle.encoding.specs.Sound.{table_of, row_in}
use Rattle.encoding.proofs.Each.{each_take, each_at}
use Rattle.encoding.proofs.Sizes.{bytes2_length, codes_length, rows_length}

-- a number that stands there is read
u16_drop : (b : List ℕ) (p : ℕ) → u16_at b p ≡ u16_at (drop p b) 0
unfolding u16_at
u16_drop b p = simp (get_or-drop, add-zero)

u32_drop : (b : List ℕ) (p : ℕ) → u32_at b p ≡ u32_at (drop p b) 0
unfolding u32_at
u32_drop b p = simp (get_or-drop, add-zero)

module _ (b : List ℕ) (p : ℕ) where
  pub u16_stands : (n : ℕ) (rest : List ℕ) → drop p b ≡ bytes2 n ++ rest → n < 65536 → u16_at b p ≡ n
  u16_stands n rest e h = u16_drop b p ∙ ap (λ (l : List ℕ). u16_at l 0) e ∙ u16_of_bytes2 n rest h

  pub u32_stands : (n : ℕ) (rest : List ℕ) → drop p b ≡ bytes4 n ++ rest → n < 4294967296 → u32_at b p ≡ n
  u32_stands n rest e h = u32_drop b p ∙ ap (λ (l : List ℕ). u32_at l 0) e ∙ u32_of_bytes4 n rest h

  -- what follows stands behind it
  pub stands_behind : (q : ℕ) (x rest : List ℕ) → drop p b ≡ x ++ rest → p + length x ≡ q → drop q b ≡ rest
  stands_behind q x rest e n =
      ap (λ (k : ℕ). drop k b) (sym n) ∙ sym (drop-drop (length x) p b) ∙ ap (drop (length x)) e
      ∙ drop-append_seam x rest

-- part k of parts that stand one after the other: f writes some, g one
module _ {A : Type 0} (f : List A → List ℕ) (g : A → List ℕ) (none : f [] ≡ [])
    (more : (x : A) (xs : List A) → f (x ∷ xs) ≡ g x ++ f xs) (d : A) where
  parts_cut : (l : List A) (k : ℕ) → k < length l → f l ≡ f (take k l) ++ (g (get_or l k d) ++ f (drop (suc k) l))
  parts_cut [] k h = absurd (omega arith)
  parts_cut (x ∷ xs) zero h = more x xs ∙ ap (λ (l : List ℕ). l ++ (g x ++ f xs)) (sym none)
  parts_cut (x ∷ xs) (suc k) h =
      more x xs ∙ ap (λ (l : List ℕ). g x ++ l) (parts_cut xs k (omega arith))
      ∙ sym (append_assoc (g x) (f (take k xs)) (g (get_or xs k d) ++ f (drop (suc k) xs)))
      ∙ ap (λ (l : List ℕ). l ++ (g (get_or xs k d) ++ f (drop (suc k) xs))) (sym (more x (take k xs)))

  pub part_stands : (b : List ℕ) (p q : ℕ) (l : List A) (rest : List ℕ) → drop p b ≡ f l ++ rest → (k : ℕ)
      → k < length l → p + length (f (take k l)) ≡ q → drop q b ≡ g (get_or l k d) ++ (f (drop (suc k) l) ++ rest)
  part_stands b p q l rest e k h n =
      stands_behind b p q (f (take k l)) (g (get_or l k d) ++ (f (drop (suc k) l) ++ rest))
      (e ∙ ap (λ (w : List ℕ). w ++ rest) (parts_cut l k h)
      ∙ append_assoc (f (take k l)) (g (get_or l k d) ++ f (drop (suc k) l)) rest
      ∙ ap (λ (w : List ℕ). f (take k l) ++ w) (append_assoc (g (get_or l k d)) (f (drop (suc k) l)) rest)) n

-- codes
pub code_stands : (b : List ℕ) (p : ℕ) (cs rest : List ℕ) → drop p b ≡ codes_of cs ++ rest → (c : ℕ) → c < length cs
    → drop (p + 4 * c) b ≡ bytes4 (get_or cs c 0) ++ (codes_of (drop (suc c) cs) ++ rest)
unfolding codes_of
code_stands b p cs rest e c h =
    part_stands codes_of bytes4 refl (λ x xs. refl) 0 b p (p + 4 * c) cs rest e c h
    (omega (arith, codes_length (take c cs), length-take-le c cs (omega arith)))

pub code_reads : (b : List ℕ) (p : ℕ) (cs rest : List ℕ) → drop p b ≡ codes_of cs ++ rest → (c : ℕ) → c < length cs
    → get_or cs c 0 < 4294967296 → u32_at b (p + 4 * c) ≡ get_or cs c 0
code_reads b p cs rest e c h = u32_stands b (p + 4 * c) (get_or cs c 0) _ (code_stands b p cs rest e c h)

-- rows of w codes each
pub row_stands : (b : List ℕ) (p w : ℕ) (rs : List (ℕ × List ℕ)) (rest : List ℕ) → EvenRows w rs
    → drop p b ≡ rows_bytes rs ++ rest → (k : ℕ) → k < length rs
    → drop (p + k * (2 + 4 * w)) b
    ≡ row_of (get_or rs k (0, [])).0 (get_or rs k (0, [])).1 ++ (rows_bytes (drop (suc k) rs) ++ rest)
unfolding rows_bytes
row_stands b p w rs rest v e k h =
    part_stands rows_bytes (λ r. row_of r.0 r.1) refl (λ x xs. refl) (0, []) b p (p + k * (2 + 4 * w)) rs rest e k h
    (ap (λ (n : ℕ). p + n)
    (rows_length w (take k rs) (each_take (λ r. length r.1 ≡ w) rs v k)
    ∙ ap (λ (n : ℕ). n * (2 + 4 * w)) (length-take-le k rs (omega arith))))

-- a table that stands at p: its first 6 bytes, and its rows
module _ (b : List ℕ) (p : ℕ) (t : Content) (rest : List ℕ) (stands : drop p b ≡ table_bytes t ++ rest) where
  head_stands : drop p b
      ≡ bytes2 t.columns ++ (bytes2 t.parent ++ (bytes2 (length t.rows) ++ (rows_bytes t.rows ++ rest)))
  unfolding table_bytes head_of
  head_stands = simp append_assoc at stands

  pub columns_read : t.columns < 65536 → u16_at b p ≡ t.columns
  columns_read = u16_stands b p t.columns _ head_stands

  parent_stands : drop (p + 2) b ≡ bytes2 t.parent ++ (bytes2 (length t.rows) ++ (rows_bytes t.rows ++ rest))
  parent_stands =
      stands_behind b p (p + 2) (bytes2 t.columns) _ head_stands
      (ap (λ (n : ℕ). p + n) (bytes2_length t.columns))

  pub parent_read : t.parent < 65536 → u16_at b (p + 2) ≡ t.parent
  parent_read = u16_stands b (p + 2) t.parent _ parent_stands

  count_stands : drop (p + 4) b ≡ bytes2 (length t.rows) ++ (rows_bytes t.rows ++ rest)
  count_stands =
      stands_behind b (p + 2) (p + 4) (bytes2 t.parent) _ parent_stands
      (omega (arith, bytes2_length t.parent))

  pub count_read : length t.rows < 65536 → u16_at b (p + 4) ≡ length t.rows
  count_read = u16_stands b (p + 4) (length t.rows) _ count_stands

  rows_stand : drop (p + 6) b ≡ rows_bytes t.rows ++ rest
  rows_stand =
      stands_behind b (p + 4) (p + 6) (bytes2 (length t.rows)) _ count_stands
      (omega (arith, bytes2_length (length t.rows)))

  module _ (even : EvenRows t.columns t.rows) (k : ℕ) (exists : k < length t.rows) where
    this_stands : drop (p + 6 + k * (2 + 4 * t.columns)) b
        ≡ bytes2 (row_in t k).0 ++ (codes_of (row_in t k).1 ++ (rows_bytes (drop (suc k) t.rows) ++ rest))
    unfolding row_of
    this_stands =
        simp append_assoc at (row_stands b (p + 6) t.columns t.rows rest even rows_stand k exists)

    pub parent_row_read : (row_in t k).0 < 65536 → u16_at b (p + 6 + k * (2 + 4 * t.columns)) ≡ (row_in t k).0
    parent_row_read = u16_stands b (p + 6 + k * (2 + 4 * t.columns)) (row_in t k).0 _ this_stands

    codes_stand : drop (p + 6 + k * (2 + 4 * t.columns) + 2) b
        ≡ codes_of (row_in t k).1 ++ (rows_bytes (drop (suc k) t.rows) ++ rest)
    codes_stand =
        stands_behind b (p + 6 + k * (2 + 4 * t.columns)) (p + 6 + k * (2 + 4 * t.columns) + 2)
        (bytes2 (row_in t k).0) _ this_stands
        (ap (λ (n : ℕ). p + 6 + k * (2 + 4 * t.columns) + n) (bytes2_length (row_in t k).0))

    pub cell_read : (c : ℕ) → c < t.columns → get_or (row_in t k).1 c 0 < 4294967296
        → u32_at b (p + 6 + k * (2 + 4 * t.columns) + 2 + 4 * c) ≡ get_or (row_in t k).1 c 0
    cell_read c h =
        let l = each_at (λ r. length r.1 ≡ t.columns) (0, []) t.rows even k exists in
        code_reads b (p + 6 + k * (2 + 4 * t.columns) + 2) (row_in t k).1 _ codes_stand c (omega arith)

-- tables, and where they start
pub table_stands : (b : List ℕ) (ts : List Content) (rest : List ℕ) → b ≡ tables_bytes ts ++ rest → (i : ℕ)
    → i < length ts
    → drop (start_at ts i) b ≡ table_bytes (table_of ts i) ++ (tables_bytes (drop (suc i) ts) ++ rest)
unfolding tables_bytes start_at
table_stands b ts rest e i h =
    part_stands tables_bytes table_bytes refl (λ x xs. refl) (content 0 0 []) b 0 (start_at ts i) ts rest e i h
    (zero-add (start_at ts i))

pub start_of : (at : ℕ) (ts : List Content) (i : ℕ) → i < length ts → get_or (starts_from at ts) i 0 ≡ at + start_at ts i
unfolding starts_from start_at tables_bytes
start_of at [] i h = absurd (omega arith)
start_of at (t ∷ ts) zero h = sym (add-zero at)
start_of at (t ∷ ts) (suc i) h =
    start_of (at + length (table_bytes t)) ts i (omega arith)
    ∙ omega (arith, length-append (table_bytes t) (tables_bytes (take i ts)))

-- the first starts at 0, each at the end of the one before, and none behind all of them
pub start_first : (ts : List Content) → start_at ts 0 ≡ 0
unfolding start_at tables_bytes
start_first ts = refl

pub start_next : (ts : List Content) (i : ℕ) → i < length ts
    → start_at ts (suc i) ≡ start_at ts i + length (table_bytes (table_of ts i))
unfolding start_at tables_bytes
start_next [] i h = absurd (omega arith)
start_next (t ∷ ts) zero h = omega (arith, length-append (table_bytes t) [])
start_next (t ∷ ts) (suc i) h =
    omega (
      arith,
      start_next ts i (omega arith),
      length-append (table_bytes t) (tables_bytes (take i ts)),
      length-append (table_bytes t) (tables_bytes (take (suc i) ts)),
    )

pub start_last : (ts : List Content) → start_at ts (length ts) ≡ length (tables_bytes ts)
unfolding start_at
start_last ts = ap (λ (l : List Content). length (tables_bytes l)) (take-length ts)

pub start_within : (ts : List Content) (i : ℕ) → start_at ts i ≤ length (tables_bytes ts)
unfolding start_at tables_bytes
start_within ts zero = omega arith
start_within [] (suc i) = omega arith
start_within (t ∷ ts) (suc i) =
    simp length-append (omega (arith, start_within ts i))
