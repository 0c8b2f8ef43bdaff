-- The damaged catalogues are refused with their numbers, and have no other grounds than stated: by computation on the
-- bytes.
use Prim.Native.Nat.{ℕ, zero, suc, ◌+◌, ◌-◌, ◌*◌, ◌≤◌, ◌<◌}
use mathlib.Core.Path.{◌≡◌, refl, sym, ap, ◌∙◌}
use mathlib.Core.List.{List, [], ◌∷◌, ◌++◌}
use native.Mathlib.Nat.{zero-add}
use native.Mathlib.Omega.{arith}
use lib.ListN.{get_or, length, replicate, length-append, length-replicate}
use lib.Seq.{get_or-append-add}
use Rattle.columns.specs.Test.{if_eq}
use Rattle.columns.proofs.Test.{if_eq_yes, if_eq_no, if_lt_yes, if_lt_no, if_le_yes}
use Rattle.model.specs.Bounds.{row_bound, no_parent}
use Rattle.model.specs.Bytes.{byte_at, u16_at, u32_at, bytes2, bytes4}
use Rattle.model.specs.Refusal.{number, or_else, first_of}
use Rattle.model.specs.declared.Refusal.TheVariants.{BadParentRow}
use Rattle.model.specs.Catalogue.{tables, trailer, table_at, columns, parent, rows, row_at, parent_row, table_end}
use Rattle.model.specs.Catalogue.{visible, visible_in}
use Rattle.model.specs.Check.{Accepted, check_code, table_code, start_of, size_code, trailer_code, head_code}
use Rattle.model.specs.Check.{bound_code}
use Rattle.model.specs.Check.{parent_code, width_code, extent_code, row_code, left_code}
use Rattle.model.specs.Encode.{head_of, codes_of, trailer_of}
use Rattle.model.specs.Damaged.{Damages, Only, grounds_from, not_zero, grounds, rows_only, many_rows, most_rows}
use Rattle.model.specs.Damaged.{AtTheBounds, DamageOrder}
use Rattle.model.proofs.Grounds.{first_of_none}
use Rattle.model.proofs.Computes.{computes}

-- 4,096 rows are too many to compute with: what stands in the first 6 bytes and in the trailer is looked up past the
-- rows, and each row has two bytes 255, so its parent row is what it must be
full : (m n : ℕ) (rest : List ℕ) → n < m → get_or (replicate m 255 ++ rest) n 0 ≡ 255
full zero n rest l = absurd (omega arith)
full (suc m) zero rest l = refl
full (suc m) (suc n) rest l = full m n rest (omega arith)

-- a number by its bytes
u16_is : (cat : List ℕ) (i w x : ℕ) → byte_at cat i ≡ w → byte_at cat (i + 1) ≡ x → u16_at cat i ≡ w + 256 * x
unfolding u16_at
u16_is cat i w x e f = omega arith

u32_is : (cat : List ℕ) (i w x y z : ℕ) → byte_at cat i ≡ w → byte_at cat (i + 1) ≡ x → byte_at cat (i + 2) ≡ y
    → byte_at cat (i + 3) ≡ z → u32_at cat i ≡ w + 256 * x + 65536 * y + 16777216 * z
unfolding u32_at
u32_is cat i w x y z e f g h = omega arith

-- n is a 2-byte number, and the trailer's place a 4-byte number
module _ (n : ℕ) (short : u16_at (bytes2 n) 0 ≡ n) (word : u32_at (bytes4 (6 + 2 * n)) 0 ≡ 6 + 2 * n) where
  abbrev last_bytes : List ℕ
  last_bytes = trailer_of (0 ∷ []) 1 (6 + 2 * n)

  abbrev rows_and_trailer : List ℕ
  rows_and_trailer = replicate (2 * n) 255 ++ last_bytes

  row_byte : (k : ℕ) → k < 2 * n → byte_at (rows_only n) (6 + k) ≡ 255
  unfolding rows_only head_of bytes2
  row_byte k l = get_or-append-add (head_of 0 no_parent n) rows_and_trailer k 0 ∙ full (2 * n) k last_bytes l

  trailer_byte : (k : ℕ) → byte_at (rows_only n) (6 + (2 * n + k)) ≡ byte_at last_bytes k
  unfolding rows_only head_of bytes2
  trailer_byte k =
      get_or-append-add (head_of 0 no_parent n) rows_and_trailer (2 * n + k) 0
      ∙ ap (λ (m : ℕ). get_or rows_and_trailer (m + k) 0) (sym (length-replicate (2 * n) 255))
      ∙ get_or-append-add (replicate (2 * n) 255) last_bytes k 0

  long : length (rows_only n) ≡ 16 + 2 * n
  unfolding rows_only head_of trailer_of codes_of bytes2 bytes4
  long = simp (length-append, length-replicate) (omega arith)

  -- the numbers in the trailer, and then those in the first 6 bytes
  one : tables (rows_only n) ≡ 1
  unfolding tables trailer_of codes_of bytes2 bytes4
  one =
      let cat = rows_only n in
      u16_is cat (length cat - 6) 1 0 (ap (byte_at cat) (omega (arith, long)) ∙ trailer_byte 4)
      (ap (byte_at cat) (omega (arith, long)) ∙ trailer_byte 5)

  trailer_at : trailer (rows_only n) ≡ 6 + 2 * n
  unfolding trailer u32_at trailer_of codes_of bytes2 bytes4
  trailer_at =
      let cat = rows_only n in
      u32_is cat (length cat - 4) _ _ _ _ (ap (byte_at cat) (omega (arith, long)) ∙ trailer_byte 6)
      (ap (byte_at cat) (omega (arith, long)) ∙ trailer_byte 7)
      (ap (byte_at cat) (omega (arith, long)) ∙ trailer_byte 8) (ap (byte_at cat) (omega (arith, long)) ∙ trailer_byte 9)
      ∙ word

  at0 : table_at (rows_only n) 0 ≡ 0
  unfolding table_at trailer_of codes_of bytes2 bytes4
  at0 =
      let cat = rows_only n in
      u32_is cat (trailer cat + 4 * 0) 0 0 0 0 (ap (byte_at cat) (omega (arith, trailer_at)) ∙ trailer_byte 0)
      (ap (byte_at cat) (omega (arith, trailer_at)) ∙ trailer_byte 1)
      (ap (byte_at cat) (omega (arith, trailer_at)) ∙ trailer_byte 2)
      (ap (byte_at cat) (omega (arith, trailer_at)) ∙ trailer_byte 3)

  byte_at_lem : (i k : ℕ) → i ≡ k → byte_at (rows_only n) i ≡ byte_at (rows_only n) k
  byte_at_lem i k e = ap (byte_at (rows_only n)) e

  none : columns (rows_only n) 0 ≡ 0
  unfolding columns rows_only head_of bytes2
  none = let cat = rows_only n in
      u16_is cat (table_at cat 0) 0 0 (byte_at_lem (table_at cat 0) 0 at0)
      (byte_at_lem (table_at cat 0 + 1) 1 (omega (arith, at0)))

  up : parent (rows_only n) 0 ≡ no_parent
  unfolding parent rows_only head_of bytes2
  up = let cat = rows_only n in
      u16_is cat (table_at cat 0 + 2) 255 255 (byte_at_lem (table_at cat 0 + 2) 2 (omega (arith, at0)))
      (byte_at_lem (table_at cat 0 + 2 + 1) 3 (omega (arith, at0)))

  are : rows (rows_only n) 0 ≡ n
  unfolding rows rows_only head_of bytes2 u16_at
  are = let cat = rows_only n in
      u16_is cat (table_at cat 0 + 4) _ _ (byte_at_lem (table_at cat 0 + 4) 4 (omega (arith, at0)))
      (byte_at_lem (table_at cat 0 + 4 + 1) 5 (omega (arith, at0))) ∙ short

  row_at_lem : (k : ℕ) → row_at (rows_only n) 0 k ≡ 6 + 2 * k
  unfolding row_at
  row_at_lem k = rw (at0, none) (omega arith)

  end_at_lem : table_end (rows_only n) 0 ≡ 6 + 2 * n
  unfolding table_end
  end_at_lem = row_at_lem (rows (rows_only n) 0) ∙ ap (λ (m : ℕ). 6 + 2 * m) are

  parent_is : (k : ℕ) → k < n → parent_row (rows_only n) 0 k ≡ no_parent
  unfolding parent_row
  parent_is k l =
      let cat = rows_only n in
      u16_is cat (row_at cat 0 k) 255 255 (ap (byte_at cat) (row_at_lem k) ∙ row_byte (2 * k) (omega arith))
      (ap (byte_at cat) (omega (arith, row_at_lem k)) ∙ row_byte (2 * k + 1) (omega arith))

  -- no ground among the rows, and none besides but for the number of rows
  rows_none : first_of (rows (rows_only n) 0) 0 (row_code (rows_only n) 0) ≡ 0
  unfolding row_code
  rows_none =
      first_of_none (rows (rows_only n) 0) 0 (row_code (rows_only n) 0)
      (λ k l. if_eq_yes _ refl ∙ if_eq_yes (number BadParentRow)
      (ap (parent_row (rows_only n) 0) (zero-add k) ∙ parent_is k (omega (arith, are))))

  size_none : size_code (rows_only n) ≡ 0
  unfolding size_code
  size_none = if_lt_no _ (omega (arith, long))

  trailer_none : trailer_code (rows_only n) ≡ 0
  unfolding trailer_code
  trailer_none = if_eq_no _ (λ e. omega (arith, one)) ∙ if_lt_no _ (omega (arith, one))
      ∙ if_eq_yes _ (omega (arith, one, trailer_at, long))

  head_none : head_code (rows_only n) 0 ≡ 0
  unfolding head_code start_of
  head_none = if_eq_yes _ at0 ∙ if_le_yes _ (omega (arith, at0, trailer_at))

  parent_none : parent_code (rows_only n) 0 ≡ 0
  unfolding parent_code
  parent_none = if_eq_yes _ refl ∙ if_eq_yes _ up

  width_none : width_code (rows_only n) 0 ≡ 0
  unfolding width_code visible visible_in if_eq
  width_none = if_lt_no _ (omega (arith, none))

  extent_none : extent_code (rows_only n) 0 ≡ 0
  unfolding extent_code
  extent_none = if_le_yes _ (omega (arith, end_at_lem, trailer_at))

  left_none : left_code (rows_only n) ≡ 0
  unfolding left_code
  left_none = if_eq_yes _ (ap (λ (m : ℕ). table_end (rows_only n) (m - 1)) one ∙ end_at_lem ∙ sym trailer_at)

  bound_none : n ≤ row_bound → bound_code (rows_only n) 0 ≡ 0
  unfolding bound_code
  bound_none h = if_lt_no _ (omega (arith, none)) ∙ if_lt_no _ (omega (arith, are))

  bound_four : row_bound < n → bound_code (rows_only n) 0 ≡ 4
  unfolding bound_code
  bound_four h = if_lt_no _ (omega (arith, none)) ∙ if_lt_yes _ (omega (arith, are))

  -- so the file is accepted, or has that one ground
  accepted : n ≤ row_bound → Accepted (rows_only n)
  unfolding check_code table_code first_of or_else if_eq
  accepted h =
      rw (
        size_none,
        trailer_none,
        one,
        head_none,
        bound_none h,
        parent_none,
        width_none,
        extent_none,
        rows_none,
        left_none,
      )

  only_four : row_bound < n → Only (rows_only n) 4
  unfolding check_code table_code first_of or_else grounds grounds_from not_zero if_eq
  only_four h = record {
    code = rw (size_none, trailer_none, one, head_none, bound_four h);
    alone =
        rw (
          size_none,
          trailer_none,
          one,
          head_none,
          bound_four h,
          parent_none,
          width_none,
          extent_none,
          rows_none,
          left_none,
        );
  }

many_rows_lem : Only many_rows 4
unfolding many_rows u16_at u32_at bytes2 bytes4
many_rows_lem = only_four 4097 refl refl (omega arith)

most_rows_lem : Accepted most_rows
unfolding most_rows u16_at u32_at bytes2 bytes4
most_rows_lem = accepted 4096 refl refl (omega arith)

pub damages : Damages
unfolding computes
damages =
    record {
      short_file = refl;
      tables_none = refl;
      tables_many = record { code = refl; alone = refl };
      trailer_long = record { code = refl; alone = refl };
      extent_offset = record { code = refl; alone = refl };
      extent_head = record { code = refl; alone = refl };
      extent_rows = record { code = refl; alone = refl };
      extent_gap = record { code = refl; alone = refl };
      extent_left = record { code = refl; alone = refl };
      columns_many = record { code = refl; alone = refl };
      rows_many = many_rows_lem;
      parent_of_root = record { code = refl; alone = refl };
      parent_itself = record { code = refl; alone = refl };
      visible_many = record { code = refl; alone = refl };
      parent_of_root_row = record { code = refl; alone = refl };
      parent_row_unknown = record { code = refl; alone = refl };
      not_beside = λ o. let z : ◌≡◌ {A = ℕ} 2 1 = ap length o.alone in absurd (omega arith);
      not_another = λ o. let z : ◌≡◌ {A = ℕ} 2 3 = o.code in absurd (omega arith);
    }

pub at_the_bounds_lem : AtTheBounds
unfolding computes
at_the_bounds_lem = record { bytes16 = refl; columns16 = refl; rows4096 = most_rows_lem; visible16 = refl }

pub damage_order_lem : DamageOrder
unfolding computes
damage_order_lem =
    record {
      one_before2 = (refl, refl, refl);
      two_before3 = record { code = refl; alone = refl };
      three_before4 = record { code = refl; alone = refl };
      four_before5 = record { code = refl; alone = refl };
      five_before6 = record { code = refl; alone = refl };
      six_before3 = record { code = refl; alone = refl };
      three_before7 = record { code = refl; alone = refl };
      table_by_table = record { code = refl; alone = refl };
      offsets_in_turn = record { code = refl; alone = refl };
      left_bytes_last = record { code = refl; alone = refl };
    }
