-- The file of sound tables: each number of the catalogue is that of the contents.
use Prim.Native.Nat.{ℕ, zero, suc, ◌+◌, ◌-◌, ◌*◌, ◌≤◌, ◌<◌}
use mathlib.Core.Path.{◌≡◌, refl, sym, ap, ◌∙◌}
use mathlib.Core.List.{List, [], ◌++◌, append-nil, append_assoc}
use native.Mathlib.Decide.{ℕ_discrete}
use native.Mathlib.Nat.{mul-le-mul}
use native.Mathlib.Omega.{arith}
use lib.ListN.{length, get_or, drop}
use lib.Seq.{drop-append_seam}
use Rattle.columns.specs.Bound.{column_bound}
use Rattle.model.specs.Bounds.{row_bound}
use Rattle.model.specs.Bytes.{u16_at, u32_at, bytes2, bytes4}
use Rattle.model.specs.Catalogue.{tables, trailer, table_at, columns, parent, rows, row_at, parent_row, cell, table_end}
use Rattle.model.specs.Encode.{Content, codes_of, trailer_of, table_bytes, tables_bytes, starts_from, encode}
use Rattle.encoding.specs.Sizes.{EvenRows, Even, size_of, start_at}
use Rattle.encoding.specs.Sound.{Sound, table_of, row_in}
use Rattle.encoding.proofs.Each.{each_by}
use Rattle.encoding.proofs.Sizes.{bytes2_length, codes_length, table_length, starts_length, file_length}
use Rattle.encoding.proofs.Parts.{u16_stands, u32_stands, stands_behind, code_reads, columns_read, parent_read}
use Rattle.encoding.proofs.Parts.{count_read, parent_row_read, cell_read, table_stands, start_of, start_first}
use Rattle.encoding.proofs.Parts.{start_next, start_last, start_within}

-- a table within the bounds is no longer than one at the bounds
size_small : (c r : ℕ) → c ≤ column_bound → r ≤ row_bound → size_of c r ≤ size_of column_bound row_bound
unfolding size_of
size_small c r h l =
    let wide : 2 + 4 * c ≤ 2 + 4 * column_bound = omega arith in omega (arith, mul-le-mul l wide)

module _ (ts : List Content) where
  -- the trailer stands behind the tables
  trailer_stands : drop (length (tables_bytes ts)) (encode ts)
      ≡ codes_of (starts_from 0 ts) ++ (bytes2 (length ts) ++ bytes4 (length (tables_bytes ts)))
  unfolding encode trailer_of
  trailer_stands =
      drop-append_seam (tables_bytes ts) _
      ∙ append_assoc (codes_of (starts_from 0 ts)) (bytes2 (length ts)) (bytes4 (length (tables_bytes ts)))

  count_at : drop (length (encode ts) - 6) (encode ts) ≡ bytes2 (length ts) ++ bytes4 (length (tables_bytes ts))
  count_at =
      stands_behind (encode ts) (length (tables_bytes ts)) (length (encode ts) - 6) (codes_of (starts_from 0 ts)) _
      trailer_stands (omega (arith, codes_length (starts_from 0 ts), starts_length 0 ts, file_length ts))

  offset_at : drop (length (encode ts) - 4) (encode ts) ≡ bytes4 (length (tables_bytes ts)) ++ []
  offset_at =
      stands_behind (encode ts) (length (encode ts) - 6) (length (encode ts) - 4) (bytes2 (length ts)) _
      count_at (omega (arith, bytes2_length (length ts), file_length ts))
      ∙ sym (append-nil (bytes4 (length (tables_bytes ts))))

  module _ (sound : Sound ts) where
    sound_rows : (i : ℕ) → i < length ts → EvenRows (table_of ts i).columns (table_of ts i).rows
    sound_rows i l =
        each_by (λ r. length r.1 ≡ (table_of ts i).columns) (0, []) (table_of ts i).rows
        (sound.each i l).lines.even

    -- sound tables are even, and short
    pub sound_even : Even ts
    sound_even = each_by (λ t. EvenRows t.columns t.rows) _ ts sound_rows

    pub table_size : (i : ℕ) → i < length ts
        → length (table_bytes (table_of ts i)) ≡ size_of (table_of ts i).columns (length (table_of ts i).rows)
    table_size i l = table_length (table_of ts i) (sound_rows i l)

    starts_small : (i : ℕ) → i ≤ length ts → start_at ts i ≤ i * size_of column_bound row_bound
    unfolding size_of
    starts_small zero l = omega (arith, start_first ts)
    starts_small (suc i) l =
        let t = sound.each i l in
        omega (
          arith,
          start_next ts i l,
          table_size i l,
          size_small _ _ t.narrow t.lines.few,
          starts_small i (omega arith),
        )

    pub tables_small : length (tables_bytes ts) < 4294967296
    unfolding size_of
    tables_small =
        omega (arith, sound.few, starts_small (length ts) (omega arith), start_last ts)

    -- the trailer
    pub encoded_tables : tables (encode ts) ≡ length ts
    unfolding tables
    encoded_tables = u16_stands (encode ts) (length (encode ts) - 6) (length ts) _ count_at (omega (arith, sound.few))

    pub encoded_trailer : trailer (encode ts) ≡ length (tables_bytes ts)
    unfolding trailer
    encoded_trailer = u32_stands (encode ts) (length (encode ts) - 4) _ [] offset_at tables_small

    module _ (i : ℕ) (exists : i < length ts) where
      pub encoded_table_at : table_at (encode ts) i ≡ start_at ts i
      unfolding table_at
      encoded_table_at =
          let e = start_of 0 ts i exists in
          ap (λ (n : ℕ). u32_at (encode ts) (n + 4 * i)) encoded_trailer
          ∙ code_reads (encode ts) (length (tables_bytes ts)) (starts_from 0 ts) _ trailer_stands i
          (omega (arith, starts_length 0 ts)) (omega (arith, start_within ts i, tables_small))
          ∙ omega arith

      -- a number of the table, from where it starts
      from : (f : ℕ → ℕ) → f (table_at (encode ts) i) ≡ f (start_at ts i)
      from f = ap f encoded_table_at

      this_stands : drop (start_at ts i) (encode ts)
          ≡ table_bytes (table_of ts i) ++ (tables_bytes (drop (suc i) ts)
          ++ trailer_of (starts_from 0 ts) (length ts) (length (tables_bytes ts)))
      unfolding encode
      this_stands = table_stands (encode ts) ts _ refl i exists

      -- a table's first 6 bytes
      pub encoded_columns : columns (encode ts) i ≡ (table_of ts i).columns
      unfolding columns
      encoded_columns =
          from (u16_at (encode ts))
          ∙ columns_read (encode ts) (start_at ts i) (table_of ts i) _ this_stands
          (omega (arith, (sound.each i exists).narrow))

      parent_small : (table_of ts i).parent < 65536
      parent_small = at (ℕ_discrete i 0)
        where
          at : Dec (i ≡ 0) → (table_of ts i).parent < 65536
          at (yes z) = omega (arith, (sound.each i exists).root z)
          at (no n) = omega (arith, (sound.each i exists).below (omega arith), sound.few)

      pub encoded_parent : parent (encode ts) i ≡ (table_of ts i).parent
      unfolding parent
      encoded_parent =
          from (λ n. u16_at (encode ts) (n + 2))
          ∙ parent_read (encode ts) (start_at ts i) (table_of ts i) _ this_stands parent_small

      pub encoded_rows : rows (encode ts) i ≡ length (table_of ts i).rows
      unfolding rows
      encoded_rows =
          from (λ n. u16_at (encode ts) (n + 4))
          ∙ count_read (encode ts) (start_at ts i) (table_of ts i) _ this_stands
          (omega (arith, (sound.each i exists).lines.few))

      -- its rows
      encoded_row_at : (k : ℕ) → row_at (encode ts) i k ≡ start_at ts i + 6 + k * (2 + 4 * (table_of ts i).columns)
      unfolding row_at
      encoded_row_at k =
          from (λ n. n + 6 + k * (2 + 4 * columns (encode ts) i))
          ∙ ap (λ (c : ℕ). start_at ts i + 6 + k * (2 + 4 * c)) encoded_columns

      pub encoded_end : table_end (encode ts) i ≡ start_at ts (suc i)
      unfolding table_end size_of
      encoded_end =
          ap (row_at (encode ts) i) encoded_rows ∙ encoded_row_at (length (table_of ts i).rows)
          ∙ omega (arith, start_next ts i exists, table_size i exists)

      module _ (k : ℕ) (here : k < length (table_of ts i).rows) where
        up_small : (row_in (table_of ts i) k).0 < 65536
        up_small = at (ℕ_discrete i 0)
          where
            at : Dec (i ≡ 0) → (row_in (table_of ts i) k).0 < 65536
            at (yes z) = omega (arith, (sound.each i exists).lines.root z k here)
            at (no n) =
                let p = (sound.each i exists).below (omega arith) in
                omega (
                  arith,
                  (sound.each i exists).lines.below (omega arith) k here,
                  (sound.each (table_of ts i).parent (omega arith)).lines.few,
                )

        pub encoded_parent_row : parent_row (encode ts) i k ≡ (row_in (table_of ts i) k).0
        unfolding parent_row
        encoded_parent_row =
            ap (u16_at (encode ts)) (encoded_row_at k)
            ∙ parent_row_read (encode ts) (start_at ts i) (table_of ts i) _ this_stands (sound_rows i exists) k here
            up_small

        pub encoded_cell : (c : ℕ) → c < (table_of ts i).columns
            → cell (encode ts) i k c ≡ get_or (row_in (table_of ts i) k).1 c 0
        unfolding cell
        encoded_cell c l =
            ap (λ (n : ℕ). u32_at (encode ts) (n + 2 + 4 * c)) (encoded_row_at k)
            ∙ cell_read (encode ts) (start_at ts i) (table_of ts i) _ this_stands (sound_rows i exists) k here c l
            ((sound.each i exists).lines.small k c here l)
