-- The tables and the trailer, written one after the other; and how many bytes they take, by the counts.
use Prim.Native.Nat.{ℕ, zero, suc, ◌+◌, ◌-◌, ◌*◌, ◌≤◌, ◌<◌}
use mathlib.Core.Path.{◌≡◌, refl, sym, ap, ap₂, ◌∙◌}
use mathlib.Core.List.{List, ◌∷◌, ◌++◌}
use native.Mathlib.Nat.{add-zero, zero-add, sub-zero, mul-le-mul}
use native.Mathlib.Numerals.{add-one}
use native.Mathlib.Omega.{arith}
use lib.ListN.{length, get_or, drop, length-append}
use lib.Seq.{sets}
use Rattle.model.specs.Bounds.{table_bound, row_bound}
use Rattle.model.specs.Bytes.{bytes2, bytes4}
use Rattle.model.specs.Catalogue.{tables, columns, parent}
use Rattle.model.specs.Encode.{head_of, codes_of, trailer_of, rows_bytes, table_bytes, tables_bytes}
use Rattle.model.specs.Encode.{starts_from, encode}
use Rattle.model.specs.Convert.{Tag, tags_in, count_of, rows_from, table_from, contents_from, converted}
use Rattle.tags.specs.Counts.{Counts}
use Rattle.encoding.specs.Sizes.{size_of}
use Rattle.encoding.proofs.Sizes.{bytes2_length, bytes4_length, head_length, codes_length, table_length, file_length}
use Rattle.standing.proofs.Sound.{rows_count, rows_codes}
use Rattle.sheets.specs.Put.{Put}
use Rattle.sheets.specs.Sheets.{table_room, size_in, sizes_in, starts_in, file_size}
use Rattle.sheets.proofs.Put.{puts_both, put_length, put_front, Writing, writing_begun, writing_room}
use Rattle.sheets.proofs.Put.{writing_more, writing_done}

-- a table's first 6 bytes are three numbers
pub head_put : (l a b m : List ℕ) (at c p r : ℕ) → a ≡ sets l at (bytes2 c) → b ≡ sets a (at + 2) (bytes2 p)
    → m ≡ sets b (at + 4) (bytes2 r) → m ≡ sets l at (head_of c p r)
unfolding head_of
head_put l a b m at c p r e f g =
    puts_both l b m (bytes2 c ++ bytes2 p) (bytes2 r) at (at + 4)
    (puts_both l a b (bytes2 c) (bytes2 p) at (at + 2) e (omega (arith, bytes2_length c)) f)
    (omega (arith, length-append (bytes2 c) (bytes2 p), bytes2_length c, bytes2_length p)) g

-- a table of the shape is its first 6 bytes and its rows
module _ (shape : List ℕ) (ts : List Tag) (t : ℕ) {c above : ℕ} (wide : c ≡ columns shape t)
    (upper : above ≡ parent shape t) where
  table_parts : (count : ℕ) → count ≡ count_of t ts
      → table_bytes (table_from shape ts t) ≡ head_of c above count ++ rows_bytes (rows_from c above t 0 ts)
  unfolding table_bytes table_from
  table_parts count e =
      ap (λ (r : ℕ). head_of (columns shape t) (parent shape t) r
      ++ rows_bytes (rows_from (columns shape t) (parent shape t) t 0 ts))
      (rows_count (columns shape t) (parent shape t) t 0 ts ∙ sym e)
      ∙ ap₂ (λ (k p : ℕ). head_of k p count ++ rows_bytes (rows_from k p t 0 ts)) (sym wide) (sym upper)

  table_long : length (table_bytes (table_from shape ts t)) ≡ 6 + length (rows_bytes (rows_from c above t 0 ts))
  table_long =
      let rows = rows_bytes (rows_from c above t 0 ts) in
      ap length (table_parts (count_of t ts) refl) ∙ length-append (head_of c above (count_of t ts)) rows
      ∙ ap (λ (n : ℕ). n + length rows) (head_length c above (count_of t ts))

  module _ (l : List ℕ) (at : ℕ) where
    -- there is room for both
    pub head_room : at + length (table_bytes (table_from shape ts t)) ≤ length l → at + 6 ≤ length l
    head_room h = omega (arith, table_long)

    pub rows_room : (m : List ℕ) (count : ℕ) → at + length (table_bytes (table_from shape ts t)) ≤ length l
        → m ≡ sets l at (head_of c above count) → at + 6 + length (rows_bytes (rows_from c above t 0 ts)) ≤ length m
    rows_room m count h e = omega (arith, table_long, put_length l m (head_of c above count) at e)

    pub table_put : (m n : List ℕ) (r count : ℕ) → count ≡ count_of t ts → m ≡ sets l at (head_of c above count)
        → Put m (at + 6) (rows_bytes (rows_from c above t 0 ts)) n r
        → Put l at (table_bytes (table_from shape ts t)) n r
    table_put m n r count e f p =
        record {
          written = puts_both l m n (head_of c above count) (rows_bytes (rows_from c above t 0 ts)) at (at + 6) f
              (omega (arith, head_length c above count)) p.written
              ∙ sym (ap (sets l at) (table_parts count e));
          end = let behind = p.end in omega (arith, table_long);
        }

-- how long it is
table_size : (shape : List ℕ) (ts : List Tag) (t : ℕ)
    → length (table_bytes (table_from shape ts t)) ≡ size_of (columns shape t) (count_of t ts)
unfolding table_from
table_size shape ts t =
    table_length (table_from shape ts t) (rows_codes (columns shape t) (parent shape t) t 0 ts)
    ∙ ap (size_of (columns shape t)) (rows_count (columns shape t) (parent shape t) t 0 ts)

-- of n one is next, where k are behind
left : (n k : ℕ) → k < n → n - k ≡ suc (n - (k + 1))
left n k h = omega arith

none_left : (n k : ℕ) → n ≤ k → n - k ≡ 0
none_left n k h = omega arith

-- Of all tables those before `table` are written.
pub record Tabling (shape : List ℕ) (ts : List Tag) (before there : List ℕ) (table at : ℕ) : Type 0 where
  pub writing : Writing before 0 (tables_bytes (contents_from shape ts (tables shape) 0)) there at
      (tables_bytes (contents_from shape ts (tables shape - table) table))

module _ (shape : List ℕ) (ts : List Tag) (before : List ℕ) where
  pub tabling_begun : Tabling shape ts before before 0 0
  tabling_begun = record { writing = rw sub-zero (writing_begun before 0 refl) }

  module _ {there : List ℕ} {table at : ℕ} (w : Tabling shape ts before there table at) where
    pub tabling_done : tables shape ≤ table
        → Put before 0 (tables_bytes (contents_from shape ts (tables shape) 0)) there at
    unfolding tables_bytes contents_from
    tabling_done h =
        writing_done w.writing
        (ap (λ (n : ℕ). tables_bytes (contents_from shape ts n table)) (none_left (tables shape) table h))

    module _ (more : table < tables shape) where
      tables_first : tables_bytes (contents_from shape ts (tables shape - table) table)
          ≡ table_bytes (table_from shape ts table)
          ++ tables_bytes (contents_from shape ts (tables shape - (table + 1)) (table + 1))
      unfolding tables_bytes contents_from
      tables_first =
          ap (λ (n : ℕ). tables_bytes (contents_from shape ts n table)) (left (tables shape) table more)
          ∙ ap (λ (t : ℕ). table_bytes (table_from shape ts table)
          ++ tables_bytes (contents_from shape ts (tables shape - (table + 1)) t)) (sym (add-one table))

      pub tabling_room : length (tables_bytes (contents_from shape ts (tables shape) 0)) ≤ length before
          → at + length (table_bytes (table_from shape ts table)) ≤ length there
      tabling_room h =
          writing_room w.writing (table_bytes (table_from shape ts table))
          (tables_bytes (contents_from shape ts (tables shape - (table + 1)) (table + 1))) tables_first (omega arith)

      pub tabling_more : {after : List ℕ} {behind : ℕ}
          → Put there at (table_bytes (table_from shape ts table)) after behind
          → Tabling shape ts before after (table + 1) behind
      tabling_more p =
          record {
            writing = writing_more w.writing (table_bytes (table_from shape ts table))
                (tables_bytes (contents_from shape ts (tables shape - (table + 1)) (table + 1))) tables_first p;
          }

-- Of the starts of all tables those before `table` are written, which starts at `start`.
pub record Starting (shape counts before : List ℕ) (at : ℕ) (there : List ℕ) (table start : ℕ) : Type 0 where
  pub small : start ≤ table * table_room
  pub writing : Writing before at (codes_of (starts_in shape counts (tables shape) 0 0)) there (at + 4 * table)
      (codes_of (starts_in shape counts (tables shape - table) table start))

starts_many : (shape counts : List ℕ) (n table at : ℕ) → length (starts_in shape counts n table at) ≡ n
unfolding starts_in
starts_many shape counts zero table at = refl
starts_many shape counts (suc n) table at =
    ap suc (starts_many shape counts n (suc table) (at + size_in shape counts table))

pub starts_long : (shape counts : List ℕ) (n table at : ℕ)
    → length (codes_of (starts_in shape counts n table at)) ≡ 4 * n
starts_long shape counts n table at =
    codes_length (starts_in shape counts n table at) ∙ ap (λ (k : ℕ). 4 * k) (starts_many shape counts n table at)

module _ (shape counts before : List ℕ) (at : ℕ) where
  pub starting_begun : Starting shape counts before at before 0 0
  starting_begun =
      record {
        small = omega arith;
        writing = rw (add-zero, sub-zero) (writing_begun before at refl);
      }

  module _ {there : List ℕ} {table start : ℕ} (w : Starting shape counts before at there table start) where
    pub starting_done : tables shape ≤ table
        → there ≡ sets before at (codes_of (starts_in shape counts (tables shape) 0 0))
    unfolding codes_of starts_in
    starting_done h =
        (writing_done w.writing
        (ap (λ (n : ℕ). codes_of (starts_in shape counts n table start)) (none_left (tables shape) table h))).written

    module _ (more : table < tables shape) where
      starts_first : codes_of (starts_in shape counts (tables shape - table) table start) ≡ bytes4 start ++ codes_of
          (starts_in shape counts (tables shape - (table + 1)) (table + 1) (start + size_in shape counts table))
      unfolding codes_of starts_in
      starts_first =
          ap (λ (n : ℕ). codes_of (starts_in shape counts n table start)) (left (tables shape) table more)
          ∙ ap (λ (t : ℕ). bytes4 start
          ++ codes_of (starts_in shape counts (tables shape - (table + 1)) t (start + size_in shape counts table)))
          (sym (add-one table))

      pub starting_room : at + 4 * tables shape ≤ length before → at + 4 * table + 4 ≤ length there
      starting_room h =
          omega (
            arith,
            writing_room w.writing (bytes4 start)
                (codes_of (starts_in shape counts (tables shape - (table + 1)) (table + 1)
                (start + size_in shape counts table)))
                starts_first (omega (arith, starts_long shape counts (tables shape) 0 0)),
            bytes4_length start,
          )

      pub starting_more : {after : List ℕ} {size : ℕ} → after ≡ sets there (at + 4 * table) (bytes4 start)
          → size ≡ size_in shape counts table → size ≤ table_room
          → Starting shape counts before at after (table + 1) (start + size)
      starting_more {after} {size} e f l =
          record {
            small = let s = w.small in omega arith;
            writing = writing_more w.writing (bytes4 start)
                (codes_of (starts_in shape counts (tables shape - (table + 1)) (table + 1) (start + size)))
                (starts_first
                ∙ ap (λ (x : ℕ). bytes4 start
                ++ codes_of (starts_in shape counts (tables shape - (table + 1)) (table + 1) (start + x))) (sym f))
                (record { written = e; end = omega (arith, bytes4_length start) });
          }

-- Of the sizes of all tables those before `table` are added up.
pub record Sizing (shape counts : List ℕ) (table sum : ℕ) : Type 0 where
  pub small : sum ≤ table * table_room
  pub same : sum + sizes_in shape counts (tables shape - table) table ≡ sizes_in shape counts (tables shape) 0

module _ (shape counts : List ℕ) where
  pub sizing_begun : Sizing shape counts 0 0
  sizing_begun = record { small = omega arith; same = rw sub-zero (omega arith) }

  module _ {table sum : ℕ} (w : Sizing shape counts table sum) where
    pub sizing_more : table < tables shape → {size : ℕ} → size ≡ size_in shape counts table → size ≤ table_room
        → Sizing shape counts (table + 1) (sum + size)
    unfolding sizes_in
    sizing_more more {size} e l =
        let first : sizes_in shape counts (tables shape - table) table
        ≡ size_in shape counts table + sizes_in shape counts (tables shape - (table + 1)) (table + 1) =
        ap (λ (n : ℕ). sizes_in shape counts n table) (left (tables shape) table more)
        ∙ ap (λ (t : ℕ). size_in shape counts table + sizes_in shape counts (tables shape - (table + 1)) t)
        (sym (add-one table)) in
        let s = w.small in let same = w.same in
        record { small = omega arith; same = omega arith }

    pub sizing_done : tables shape ≤ table → sum + 4 * tables shape + 6 ≡ file_size shape counts
    unfolding sizes_in file_size
    sizing_done h =
        let none : sizes_in shape counts (tables shape - table) table ≡ 0 =
        ap (λ (n : ℕ). sizes_in shape counts n table) (none_left (tables shape) table h) in
        let same = w.same in omega arith

-- a table with not too many rows has room
pub size_small : (c r : ℕ) → c < 65536 → r ≤ row_bound → r * (2 + 4 * c) + 6 ≤ table_room
size_small c r h l =
    let wide : 2 + 4 * c ≤ 262142 = omega arith in omega (arith, mul-le-mul l wide)

pub size_is : (shape counts : List ℕ) (t : ℕ)
    → 6 + get_or counts t 0 * (2 + 4 * columns shape t) ≡ size_in shape counts t
unfolding size_in size_of
size_is shape counts t = refl

-- by the counts of some tags, sizes and starts are those of the tables that the tags make
module _ (shape : List ℕ) (ts : List Tag) (counts : List ℕ) (counted : Counts ts counts) where
  size_counted : (t : ℕ) → t < table_bound → length (table_bytes (table_from shape ts t)) ≡ size_in shape counts t
  unfolding size_in
  size_counted t h = table_size shape ts t ∙ ap (size_of (columns shape t)) (sym (counted.each t h))

  sizes_counted : (n t : ℕ) → t + n ≤ table_bound
      → length (tables_bytes (contents_from shape ts n t)) ≡ sizes_in shape counts n t
  unfolding tables_bytes contents_from sizes_in
  sizes_counted zero t h = refl
  sizes_counted (suc n) t h =
      length-append (table_bytes (table_from shape ts t)) (tables_bytes (contents_from shape ts n (suc t)))
      ∙ ap₂ ◌+◌ (size_counted t (omega arith)) (sizes_counted n (suc t) (omega arith))

  starts_counted : (n t at : ℕ) → t + n ≤ table_bound
      → starts_from at (contents_from shape ts n t) ≡ starts_in shape counts n t at
  unfolding contents_from starts_from starts_in
  starts_counted zero t at h = refl
  starts_counted (suc n) t at h =
      ap (λ (l : List ℕ). at ∷ l)
      (starts_counted n (suc t) (at + length (table_bytes (table_from shape ts t))) (omega arith)
      ∙ ap (λ (k : ℕ). starts_in shape counts n (suc t) (at + k)) (size_counted t (omega arith)))

contents_many : (shape : List ℕ) (ts : List Tag) (n t : ℕ) → length (contents_from shape ts n t) ≡ n
unfolding contents_from
contents_many shape ts zero t = refl
contents_many shape ts (suc n) t = ap suc (contents_many shape ts n (suc t))

-- the trailer is the starts and two numbers
pub trailer_put : (l a b m : List ℕ) (at n k : ℕ) (starts : List ℕ) → n ≡ k → length (codes_of starts) ≡ 4 * k
    → a ≡ sets l at (codes_of starts) → b ≡ sets a (at + 4 * n) (bytes2 n)
    → m ≡ sets b (at + 4 * n + 2) (bytes4 at) → m ≡ sets l at (trailer_of starts k at)
unfolding trailer_of
trailer_put l a b m at n k starts s long e f g =
    puts_both l b m (codes_of starts ++ bytes2 n) (bytes4 at) at (at + 4 * n + 2)
    (puts_both l a b (codes_of starts) (bytes2 n) at (at + 4 * n) e (omega arith) f)
    (omega (arith, length-append (codes_of starts) (bytes2 n), bytes2_length n)) g
    ∙ ap (λ (x : ℕ). sets l at (trailer_of starts x at)) s

-- the whole file is the tables and the trailer behind them: there is room for both
module _ (shape text : List ℕ) where
  parts_long : length (converted shape text)
      ≡ length (tables_bytes (contents_from shape (tags_in text) (tables shape) 0)) + (4 * tables shape + 6)
  unfolding converted
  parts_long =
      let ts = contents_from shape (tags_in text) (tables shape) 0 in
      omega (arith, file_length ts, contents_many shape (tags_in text) (tables shape) 0)

  module _ (l : List ℕ) (fits : length (converted shape text) ≤ length l) where
    pub tables_room : length (tables_bytes (contents_from shape (tags_in text) (tables shape) 0)) ≤ length l
    tables_room = omega (arith, parts_long)

    pub trailer_room : (m : List ℕ) (end : ℕ)
        → Put l 0 (tables_bytes (contents_from shape (tags_in text) (tables shape) 0)) m end
        → end + (4 * tables shape + 6) ≤ length m
    trailer_room m end p =
        let all = tables_bytes (contents_from shape (tags_in text) (tables shape) 0) in
        let behind = p.end in
        omega (arith, parts_long, put_length l m all 0 p.written)

module _ (shape text counts : List ℕ) (few : tables shape ≤ table_bound) (counted : Counts (tags_in text) counts) where
  -- its size by the counts is its length
  pub size_converted : file_size shape counts ≡ length (converted shape text)
  unfolding file_size
  size_converted =
      omega (
        arith,
        parts_long shape text,
        sizes_counted shape (tags_in text) counts counted (tables shape) 0 (omega arith),
      )

  whole_is : converted shape text ≡ tables_bytes (contents_from shape (tags_in text) (tables shape) 0)
      ++ trailer_of (starts_in shape counts (tables shape) 0 0) (tables shape)
      (length (tables_bytes (contents_from shape (tags_in text) (tables shape) 0)))
  unfolding converted encode
  whole_is =
      let ts = contents_from shape (tags_in text) (tables shape) 0 in
      ap₂ (λ (l : List ℕ) (n : ℕ). tables_bytes ts ++ trailer_of l n (length (tables_bytes ts)))
      (starts_counted shape (tags_in text) counts counted (tables shape) 0 0 (omega arith))
      (contents_many shape (tags_in text) (tables shape) 0)

  -- written both, it stands there; behind it stands what there was
  pub whole_put : (l m n : List ℕ) (end : ℕ) → length (converted shape text) ≤ length l
      → Put l 0 (tables_bytes (contents_from shape (tags_in text) (tables shape) 0)) m end
      → n ≡ sets m end (trailer_of (starts_in shape counts (tables shape) 0 0) (tables shape) end)
      → n ≡ converted shape text ++ drop (length (converted shape text)) l
  whole_put l m n end h p e =
      let all = tables_bytes (contents_from shape (tags_in text) (tables shape) 0) in
      let starts = starts_in shape counts (tables shape) 0 0 in
      put_front l n (converted shape text)
      (puts_both l m n all (trailer_of starts (tables shape) (length all)) 0 end p.written p.end
      (e ∙ ap (λ (k : ℕ). sets m end (trailer_of starts (tables shape) k)) (p.end ∙ zero-add (length all)))
      ∙ sym (ap (sets l 0) whole_is)) h
