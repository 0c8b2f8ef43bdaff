-- The grounds of 20, 21 and 22, from what was found.
use Prim.Native.Nat.{ℕ, ◌≤◌, ◌<◌}
use mathlib.Core.Path.{◌≡◌, refl, sym, ap, subst, fun_ext, ◌∙◌}
use mathlib.Core.Bool.{Bool, true, false, not}
use mathlib.Core.List.{List, []}
use native.Mathlib.Omega.{arith}
use borrow.Author.Tests.{not-true, not-false, eq-eqb}
use lib.Dec.{T, eqb, eqb→eq}
use lib.ListN.{length}
use Rattle.columns.proofs.Test.{if_eq_yes, if_eq_no, if_lt_yes, if_lt_no, is_if_eq, is_if_ne, is_if_lt, is_if_not_lt}
use Rattle.model.specs.Bounds.{row_bound}
use Rattle.model.specs.Refusal.{number, first_of}
use Rattle.model.specs.Catalogue.{tables, rows}
use Rattle.model.specs.Forest.{Cells}
use Rattle.model.specs.Form.{document_at}
use Rattle.model.specs.Convert.{Tag, tags_in, count_of, converted, taken, form_code, empty_code, fit_code, many_code}
use Rattle.model.specs.Convert.{full_code}
use Rattle.model.specs.declared.Refusal.TheVariants.{BadText, UnfitText, NoRoom}
use Rattle.model.proofs.Grounds.{is_next}

-- a table of the shape has rows, or none
pub some_rows : (shape : List ℕ) (t : ℕ) {r : ℕ} → r ≡ rows shape t → (r ≡ 0 → ⊥)
    → number UnfitText ≡ empty_code shape t
unfolding empty_code
some_rows shape t e n = sym (if_eq_no 0 (λ z. n (e ∙ z)))

pub none_rows : (shape : List ℕ) (t : ℕ) {r : ℕ} → r ≡ rows shape t → r ≡ 0 → empty_code shape t ≡ 0
unfolding empty_code
none_rows shape t e z = if_eq_yes (number UnfitText) (sym e ∙ z)

-- a table of the text has too many, or not
pub many_rows_lem : (ts : List Tag) (t : ℕ) {r : ℕ} → r ≡ count_of t ts → row_bound < r → number NoRoom ≡ many_code ts t
unfolding many_code
many_rows_lem ts t e l = sym (if_lt_yes 0 (omega arith))

pub few_rows : (ts : List Tag) (t : ℕ) {r : ℕ} → r ≡ count_of t ts → r ≤ row_bound → many_code ts t ≡ 0
unfolding many_code
few_rows ts t e l = if_lt_no (number NoRoom) (omega arith)

-- a text is read to its end, or not
pub read_all : (s : List ℕ) (fits : ℕ → ℕ → Cells → Bool) {b : Bool} → b ≡ not (eqb (document_at s fits) 0)
    → not b ≡ false → document_at s fits ≡ 0 → ⊥
read_all s fits {b} e n z =
    let y : not (eqb (document_at s fits) 0) ≡ true = sym e ∙ not-false b n in
    subst T (ap not (eq-eqb (document_at s fits) 0 z)) (subst T (sym y) tt)

pub not_read : (s : List ℕ) (fits : ℕ → ℕ → Cells → Bool) {b : Bool} → b ≡ not (eqb (document_at s fits) 0)
    → not b ≡ true → document_at s fits ≡ 0
not_read s fits {b} e n =
    let y : not (eqb (document_at s fits) 0) ≡ false = sym e ∙ not-true b n in
    eqb→eq (document_at s fits) 0 (subst T (sym (not-false (eqb (document_at s fits) 0) y)) tt)

-- whatever the shape, where no tag is tested
form_alike : (s a b : List ℕ) → document_at s (taken false a) ≡ document_at s (taken false b)
unfolding taken
form_alike s a b = ap (document_at s) (fun_ext (λ up. fun_ext (λ n. fun_ext (λ cs. refl))))

-- 20 and 21, from whether the text is read
pub bad_text_lem : (s shape : List ℕ) → document_at s (taken false shape) ≡ 0 → number BadText ≡ form_code s
unfolding form_code
bad_text_lem s shape z = is_if_eq 0 (form_alike s [] shape ∙ z) refl

pub good_text : (s shape : List ℕ) → (document_at s (taken false shape) ≡ 0 → ⊥) → form_code s ≡ 0
unfolding form_code
good_text s shape n = if_eq_no (number BadText) (λ z. n (form_alike s shape [] ∙ z))

pub unfit_text_lem : (shape text : List ℕ) → first_of (tables shape) 0 (empty_code shape) ≡ 0
    → document_at text (taken true shape) ≡ 0 → number UnfitText ≡ fit_code shape text
unfolding fit_code
unfit_text_lem shape text e z = is_next _ e (is_if_eq 0 z refl)

pub fit_text : (shape text : List ℕ) → first_of (tables shape) 0 (empty_code shape) ≡ 0
    → (document_at text (taken true shape) ≡ 0 → ⊥) → 0 ≡ fit_code shape text
unfolding fit_code
fit_text shape text e n = is_next _ e (is_if_ne (number UnfitText) n refl)

-- 22, from the counts and the size
pub too_short : (shape text : List ℕ) (room : ℕ) {n : ℕ} → first_of (tables shape) 0 (many_code (tags_in text)) ≡ 0
    → n ≡ length (converted shape text) → room < n → number NoRoom ≡ full_code shape text room
unfolding full_code
too_short shape text room e f l = is_next _ e (is_if_lt 0 (omega arith) refl)

pub room_enough : (shape text : List ℕ) (room : ℕ) {n : ℕ} → first_of (tables shape) 0 (many_code (tags_in text)) ≡ 0
    → n ≡ length (converted shape text) → n ≤ room → 0 ≡ full_code shape text room
unfolding full_code
room_enough shape text room e f l = is_next _ e (is_if_not_lt (number NoRoom) (omega arith) refl)
