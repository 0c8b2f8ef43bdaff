-- The conversion from its parts: its first ground, what is known where there is none, and the file's size.
use Prim.Native.Nat.{ℕ, zero, suc, ◌+◌, ◌*◌, ◌≤◌, ◌<◌}
use mathlib.Core.Path.{◌≡◌, refl, sym, ap, subst, ◌∙◌}
use mathlib.Core.List.{List, ◌++◌}
use native.Mathlib.Nat.{zero-add, mul-le-mul}
use native.Mathlib.Omega.{arith}
use lib.ListN.{length, drop}
use Rattle.columns.proofs.Test.{is_if_eq, is_if_ne}
use Rattle.model.specs.Bounds.{row_bound}
use Rattle.model.specs.Refusal.{last_refusal, or_else, first_of}
use Rattle.model.specs.Catalogue.{tables, columns}
use Rattle.model.specs.Check.{Accepted, check_code}
use Rattle.model.specs.Convert.{Tag, tags_in, count_of, converted, form_code, empty_code, fit_code, many_code}
use Rattle.model.specs.Convert.{full_code}
use Rattle.model.specs.Convert.{convert_code, converted_output}
use Rattle.model.proofs.Grounds.{or_else_left, or_else_assoc, or_else_le, first_of_le, first_of_each}
use Rattle.model.proofs.Grounds.{if_eq_le, if_lt_le}
use Rattle.model.proofs.Grounds.{or_else_right, if_lt_fails, is_this, is_next}
use Rattle.model.proofs.Check.{accepted_tables, accepted_columns}
use Rattle.grounds.proofs.Sound.{check_code_le}
use Rattle.encoding.specs.Sizes.{size_of}
use Rattle.tags.specs.Counts.{Counts}
use Rattle.sheets.specs.Sheets.{size_in, sizes_in, file_size, Few}

-- what is tried before there is anything to count
abbrev pub text_code : List ℕ → List ℕ → ℕ
text_code shape text = or_else (check_code shape) (or_else (form_code text) (fit_code shape text))

convert_parts : (shape text : List ℕ) (room : ℕ)
    → convert_code shape text room ≡ or_else (text_code shape text) (full_code shape text room)
unfolding convert_code
convert_parts shape text room =
    ap (or_else (check_code shape)) (or_else_assoc (form_code text) (fit_code shape text) (full_code shape text room))
    ∙ or_else_assoc (check_code shape) (or_else (form_code text) (fit_code shape text)) (full_code shape text room)

-- the first ground, or the second
pub convert_first : (shape text : List ℕ) (room : ℕ) {r : ℕ} → r ≡ text_code shape text → (r ≡ 0 → ⊥)
    → r ≡ convert_code shape text room
convert_first shape text room e n =
    is_this (full_code shape text room) e n ∙ sym (convert_parts shape text room)

pub convert_second : (shape text : List ℕ) (room : ℕ) {r : ℕ} → 0 ≡ text_code shape text
    → r ≡ full_code shape text room → r ≡ convert_code shape text room
convert_second shape text room z e = is_next (text_code shape text) (sym z) e ∙ sym (convert_parts shape text room)

-- their numbers
pub text_code_le : (shape text : List ℕ) → text_code shape text ≤ last_refusal
unfolding form_code fit_code empty_code
text_code_le shape text =
    or_else_le (omega (arith, check_code_le shape))
    (or_else_le (if_eq_le _ _ (omega arith) (omega arith))
    (or_else_le (first_of_le (tables shape) 0 _ (λ t. if_eq_le _ _ (omega arith) (omega arith)))
    (if_eq_le _ _ (omega arith) (omega arith))))

pub full_code_le : (shape text : List ℕ) (room : ℕ) → full_code shape text room ≤ last_refusal
unfolding full_code many_code
full_code_le shape text room =
    or_else_le (first_of_le (tables shape) 0 _ (λ t. if_lt_le _ _ (omega arith) (omega arith)))
    (if_lt_le _ _ (omega arith) (omega arith))

-- without a ground the shape is accepted, no table has too many rows, and there is room
pub text_accepted : (shape text : List ℕ) → 0 ≡ text_code shape text → Accepted shape
text_accepted shape text z = or_else_left _ _ (sym z)

pub few_counted : (shape : List ℕ) (ts : List Tag) (counts : List ℕ) → Accepted shape → Counts ts counts
    → first_of (tables shape) 0 (many_code ts) ≡ 0 → Few shape counts
unfolding many_code
few_counted shape ts counts ok counted z t l =
    let e = subst (λ (k : ℕ). many_code ts k ≡ 0) (zero-add t)
    (first_of_each (tables shape) 0 (many_code ts) z t l) in
    let few = if_lt_fails row_bound (count_of t ts) _ _ (omega arith) e in
    omega (arith, counted.each t (omega (arith, accepted_tables shape ok)))

pub few_converted : (shape text counts : List ℕ) (room : ℕ) → 0 ≡ text_code shape text
    → 0 ≡ full_code shape text room → Counts (tags_in text) counts → Few shape counts
unfolding full_code
few_converted shape text counts room fit full counted =
    few_counted shape (tags_in text) counts (text_accepted shape text fit) counted (or_else_left _ _ (sym full))

pub full_room : (shape text : List ℕ) (room : ℕ) → 0 ≡ full_code shape text room
    → length (converted shape text) ≤ room
unfolding full_code
full_room shape text room z = if_lt_fails _ _ _ _ (omega arith) (or_else_right _ _ (sym z))

-- the output: as it was after a ground, and else the catalogue and what stood behind
pub output_kept : (shape text out : List ℕ) → (convert_code shape text (length out) ≡ 0 → ⊥)
    → out ≡ converted_output shape text out
unfolding converted_output
output_kept shape text out n = is_if_ne _ n refl

pub output_written : (shape text out : List ℕ) {after : List ℕ} → convert_code shape text (length out) ≡ 0
    → after ≡ converted shape text ++ drop (length (converted shape text)) out
    → after ≡ converted_output shape text out
unfolding converted_output
output_written shape text out z e = is_if_eq out z e

-- the file's size is a number of 4 bytes
module _ (shape counts : List ℕ) (ok : Accepted shape) (few : Few shape counts) where
  sizes_small : (n t : ℕ) → t + n ≤ tables shape → sizes_in shape counts n t ≤ n * 270342
  unfolding sizes_in size_in size_of
  sizes_small zero t h = omega arith
  sizes_small (suc n) t h =
      let wide : 2 + 4 * columns shape t ≤ 66 = omega (arith, accepted_columns shape ok t (omega arith)) in
      omega (arith, mul-le-mul (few t (omega arith)) wide, sizes_small n (suc t) (omega arith))

  pub file_small : file_size shape counts < 4294967296
  unfolding file_size
  file_small = omega (arith, sizes_small (tables shape) 0 (omega arith), accepted_tables shape ok)
