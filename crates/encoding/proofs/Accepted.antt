-- The file of sound tables is an accepted catalogue: no line of the table of refusals 1 to 7 is met.
use Prim.Native.Nat.{ℕ, zero, suc, ◌+◌, ◌-◌, ◌≤◌, ◌<◌}
use mathlib.Core.Path.{◌≡◌, sym, ap, subst, ◌∙◌}
use mathlib.Core.List.{List}
use native.Mathlib.Decide.{ℕ_discrete}
use native.Mathlib.Nat.{zero-add}
use native.Mathlib.Omega.{arith}
use lib.ListN.{length}
use Rattle.columns.specs.Test.{if_eq, if_lt}
use Rattle.columns.proofs.Test.{if_eq_yes, if_eq_no, if_lt_yes, if_lt_no, if_le_yes}
use Rattle.model.specs.Bounds.{no_parent}
use Rattle.model.specs.Refusal.{first_of}
use Rattle.model.specs.Catalogue.{table_at, parent, rows, table_end, visible}
use Rattle.model.specs.Check.{Accepted, check_code, size_code, trailer_code, start_of, head_code, bound_code}
use Rattle.model.specs.Check.{parent_code}
use Rattle.model.specs.Check.{width_code, extent_code, row_code, table_code, left_code}
use Rattle.model.specs.Encode.{Content, tables_bytes, encode}
use Rattle.model.proofs.Grounds.{or_else_none, first_of_none}
use Rattle.encoding.specs.Sizes.{size_of, start_at}
use Rattle.encoding.specs.Sound.{Sound, Shaped, table_of, visible_of}
use Rattle.encoding.proofs.Sizes.{file_length}
use Rattle.encoding.proofs.Parts.{start_first, start_next, start_last, start_within}
use Rattle.encoding.proofs.Contents.{table_size, encoded_tables, encoded_trailer, encoded_table_at}
use Rattle.encoding.proofs.Contents.{encoded_columns, encoded_parent, encoded_rows, encoded_end}
use Rattle.encoding.proofs.Contents.{encoded_parent_row}
use Rattle.encoding.proofs.Visible.{visible_as}

-- what is 'none' at the root and elsewhere below a bound is no ground
placed_none : (i up above n : ℕ) → (i ≡ 0 → up ≡ no_parent) → (0 < i → up < above)
    → if_eq i 0 (if_eq up no_parent 0 n) (if_lt up above 0 n) ≡ 0
placed_none i up above n root below = at (ℕ_discrete i 0)
  where
    at : Dec (i ≡ 0) → if_eq i 0 (if_eq up no_parent 0 n) (if_lt up above 0 n) ≡ 0
    at (yes z) = if_eq_yes _ z ∙ if_eq_yes n (root z)
    at (no z) = if_eq_no _ z ∙ if_lt_yes n (below (omega arith))

-- no ground at any number below n
none_below : (n : ℕ) (f : ℕ → ℕ) → ((k : ℕ) → k < n → f k ≡ 0) → first_of n 0 f ≡ 0
none_below n f h = first_of_none n 0 f (λ k l. subst (λ (j : ℕ). f j ≡ 0) (sym (zero-add k)) (h k l))

module _ (ts : List Content) (sound : Sound ts) where
  -- the file has the contents' columns and parents, and so their visible columns
  pub encoded_shaped : Shaped (encode ts) ts
  encoded_shaped =
      record {
        count = encoded_tables ts sound;
        columns_same = λ i l. sym (encoded_columns ts sound i l);
        parent_same = λ i l. sym (encoded_parent ts sound i l);
      }

  pub encoded_visible : (i : ℕ) → i < length ts → visible (encode ts) i ≡ visible_of ts i
  encoded_visible i l =
      sym (visible_as (encode ts) ts encoded_shaped
      (λ j m h. omega (arith, encoded_parent ts sound j m, (sound.each j m).below h)) i l)

  -- a table has its 6 bytes, and it ends at or before the trailer
  extent : (i : ℕ) → i < length ts
      → (start_at ts i + 6 ≤ start_at ts (suc i)) × (start_at ts (suc i) ≤ length (tables_bytes ts))
  unfolding size_of
  extent i l = (omega (arith, start_next ts i l, table_size ts sound i l), start_within ts (suc i))

  -- 1 and 2
  size_none : size_code (encode ts) ≡ 0
  unfolding size_code
  size_none =
      let e = extent 0 sound.some in if_lt_no _ (omega (arith, sound.some, file_length ts, start_first ts))

  trailer_none : trailer_code (encode ts) ≡ 0
  unfolding trailer_code
  trailer_none =
      let n = encoded_tables ts sound in
      let t = encoded_trailer ts sound in
      if_eq_no _ (λ z. omega (arith, sound.some)) ∙ if_lt_no _ (omega (arith, sound.few))
      ∙ if_eq_yes _ (omega (arith, file_length ts))

  -- 3 to 7 of a table
  starts_there : (i : ℕ) → i < length ts → table_at (encode ts) i ≡ start_of (encode ts) i
  unfolding start_of
  starts_there zero l = encoded_table_at ts sound 0 l ∙ start_first ts
  starts_there (suc i) l = encoded_table_at ts sound (suc i) l ∙ sym (encoded_end ts sound i (omega arith))

  module _ (i : ℕ) (exists : i < length ts) where
    head_none : head_code (encode ts) i ≡ 0
    unfolding head_code
    head_none =
        let e = extent i exists in
        if_eq_yes _ (starts_there i exists)
        ∙ if_le_yes _ (omega (arith, encoded_table_at ts sound i exists, encoded_trailer ts sound))

    bound_none : bound_code (encode ts) i ≡ 0
    unfolding bound_code
    bound_none =
        let t = sound.each i exists in
        if_lt_no _ (omega (arith, encoded_columns ts sound i exists))
        ∙ if_lt_no _ (omega (arith, encoded_rows ts sound i exists))

    parent_none : parent_code (encode ts) i ≡ 0
    unfolding parent_code
    parent_none =
        let e = encoded_parent ts sound i exists in
        placed_none i _ i _ (λ z. e ∙ (sound.each i exists).root z) (λ h. omega (arith, (sound.each i exists).below h))

    width_none : width_code (encode ts) i ≡ 0
    unfolding width_code
    width_none = if_lt_no _ (omega (arith, encoded_visible i exists, sound.narrow i exists))

    extent_none : extent_code (encode ts) i ≡ 0
    unfolding extent_code
    extent_none =
        let e = extent i exists in
        if_le_yes _ (omega (arith, encoded_end ts sound i exists, encoded_trailer ts sound))

    row_none : (k : ℕ) → k < length (table_of ts i).rows → row_code (encode ts) i k ≡ 0
    unfolding row_code
    row_none k l =
        placed_none i _ (rows (encode ts) (parent (encode ts) i)) _
        (λ z. encoded_parent_row ts sound i exists k l ∙ (sound.each i exists).lines.root z k l)
        (λ h. let p = (sound.each i exists).below h in
        omega (
          arith,
          encoded_parent_row ts sound i exists k l,
          (sound.each i exists).lines.below h k l,
          ap (rows (encode ts)) (encoded_parent ts sound i exists),
          encoded_rows ts sound (table_of ts i).parent (omega arith),
        ))

    table_none : table_code (encode ts) i ≡ 0
    unfolding table_code
    table_none =
        or_else_none head_none
        (or_else_none bound_none
        (or_else_none parent_none
        (or_else_none width_none
        (or_else_none extent_none
        (none_below _ _ (λ k l. row_none k (omega (arith, encoded_rows ts sound i exists))))))))

  left_none : left_code (encode ts) ≡ 0
  unfolding left_code
  left_none =
      let n = sound.some in
      if_eq_yes _
      (ap (λ (n : ℕ). table_end (encode ts) (n - 1)) (encoded_tables ts sound)
      ∙ encoded_end ts sound (length ts - 1) (omega arith)
      ∙ ap (start_at ts) (omega arith) ∙ start_last ts ∙ sym (encoded_trailer ts sound))

  pub encode_accepted : Accepted (encode ts)
  unfolding check_code
  encode_accepted =
      or_else_none size_none
      (or_else_none trailer_none
      (or_else_none (none_below _ _ (λ i l. table_none i (omega (arith, encoded_tables ts sound)))) left_none))
