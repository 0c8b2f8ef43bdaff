-- The words of one column are equal exactly where rows agree, so the leaders by them are the leaders by the column.
use Prim.Native.Nat.{ℕ, ◌+◌, ◌≤◌, ◌<◌}
use mathlib.Core.Path.{◌≡◌, sym, ap, ap₂, ◌∙◌}
use mathlib.Core.List.{List}
use mathlib.Core.Bool.{true, false}
use native.Mathlib.Decide.{ℕ_discrete}
use native.Mathlib.Omega.{arith}
use borrow.Author.Tests.{eq-eqb, ne_eqb}
use lib.Dec.{eqb}
use lib.ListN.{length, get_or, set}
use Rattle.columns.proofs.Test.{if_eq_yes, if_eq_no}
use Rattle.model.specs.Bounds.{row_bound, missing}
use Rattle.model.specs.Target.{cells_agree}
use Rattle.leaders.specs.Keys.{first_same}
use Rattle.model.proofs.First.{first_from_same}
use Rattle.filled.specs.Filled.{Filled}
use Rattle.filled.proofs.Below.{below_more}
use Rattle.filled.proofs.Filled.{filled_more, filled_first}
use Rattle.keys.specs.Column.{code_of, agree_by, leader_by, cell_word, AgreeWords}

-- the word of a missing cell is beyond all codes, and that of another is its code
word_missing : (code x : ℕ) → code ≡ missing → cell_word code x ≡ missing + 1 + x
unfolding cell_word
word_missing code x e = if_eq_yes code e

word_present : (code x : ℕ) → (code ≡ missing → ⊥) → cell_word code x ≡ code
unfolding cell_word
word_present code x n = if_eq_no (missing + 1 + x) n

-- one row agrees with itself, and two agree by their codes
cells_one : (x y c d : ℕ) → x ≡ y → cells_agree x y c d ≡ true
unfolding cells_agree
cells_one x y c d e = simp (eq-eqb x y e)

cells_missing : (x y c d : ℕ) → (x ≡ y → ⊥) → c ≡ missing → cells_agree x y c d ≡ false
unfolding cells_agree
cells_missing x y c d n e = simp (ne_eqb x y n, eq-eqb c missing e)

cells_present : (x y c d : ℕ) → (x ≡ y → ⊥) → (c ≡ missing → ⊥) → cells_agree x y c d ≡ eqb c d
unfolding cells_agree
cells_present x y c d n e = simp (ne_eqb x y n, ne_eqb c missing e)

words_two : (c d x y : ℕ) → c ≤ missing → d ≤ missing → (x ≡ y → ⊥)
    → eqb (cell_word c x) (cell_word d y) ≡ cells_agree x y c d
words_two c d x y lc ld n = at (ℕ_discrete c missing) (ℕ_discrete d missing)
  where
    at : Dec (c ≡ missing) → Dec (d ≡ missing) → eqb (cell_word c x) (cell_word d y) ≡ cells_agree x y c d
    at (yes e) (yes f) =
        ap₂ eqb (word_missing c x e) (word_missing d y f)
        ∙ ne_eqb (missing + 1 + x) (missing + 1 + y) (λ g. n (omega arith)) ∙ sym (cells_missing x y c d n e)
    at (yes e) (no f) =
        ap₂ eqb (word_missing c x e) (word_present d y f) ∙ ne_eqb (missing + 1 + x) d (λ g. omega arith)
        ∙ sym (cells_missing x y c d n e)
    at (no e) (yes f) =
        ap₂ eqb (word_present c x e) (word_missing d y f) ∙ ne_eqb c (missing + 1 + y) (λ g. omega arith)
        ∙ sym (ne_eqb c d (λ g. e (g ∙ f))) ∙ sym (cells_present x y c d n e)
    at (no e) (no f) =
        ap₂ eqb (word_present c x e) (word_present d y f) ∙ sym (cells_present x y c d n e)

words_same : (f : ℕ → ℕ) (x y : ℕ) → f x ≤ missing → f y ≤ missing
    → eqb (cell_word (f x) x) (cell_word (f y) y) ≡ cells_agree x y (f x) (f y)
words_same f x y lx ly = at (ℕ_discrete x y)
  where
    at : Dec (x ≡ y) → eqb (cell_word (f x) x) (cell_word (f y) y) ≡ cells_agree x y (f x) (f y)
    at (yes e) =
        eq-eqb (cell_word (f x) x) (cell_word (f y) y) (ap (λ (z : ℕ). cell_word (f z) z) e)
        ∙ sym (cells_one x y (f x) (f y) e)
    at (no n) = words_two (f x) (f y) x y lx ly n

-- the words of the rows below q, filled one after the other
pub record Filling (cat : List ℕ) (from width : ℕ) (reached : List ℕ) (q : ℕ) (before words : List ℕ) : Type 0 where
  pub put : Filled 0 q (λ p. cell_word (code_of cat from width (get_or reached p 0)) (get_or reached p 0)) before words
  pub small : (p : ℕ) → p < q → code_of cat from width (get_or reached p 0) ≤ missing

pub filling_more : (cat : List ℕ) (from width : ℕ) (reached : List ℕ) (q : ℕ) (before words : List ℕ) (code x : ℕ)
    → q < length before
    → code ≡ code_of cat from width (get_or reached q 0) → code ≤ missing → x ≡ cell_word code (get_or reached q 0)
    → Filling cat from width reached q before words → Filling cat from width reached (q + 1) before (set words q x)
filling_more cat from width reached q before words code x l e s f h =
    record {
      put = filled_more h.put (omega arith) (omega arith) l (f ∙ ap (λ (z : ℕ). cell_word z (get_or reached q 0)) e);
      small = below_more h.small (omega arith);
    }

pub filling_done : (cat : List ℕ) (from width : ℕ) (reached : List ℕ) (end q : ℕ) (before words : List ℕ)
    → length before ≡ row_bound → end ≤ q
    → Filling cat from width reached q before words → AgreeWords cat from width reached end words
unfolding agree_by
filling_done cat from width reached end q before words long l h =
    record {
      long = h.put.same_length ∙ long;
      same = λ p r lp lr.
          ap₂ eqb (filled_first h.put p (omega arith)) (filled_first h.put r (omega arith))
          ∙ words_same (code_of cat from width) (get_or reached p 0) (get_or reached r 0) (h.small p (omega arith))
          (h.small r (omega arith));
    }

-- the leaders by the words
pub leader_by_words : (cat : List ℕ) (from width : ℕ) (reached : List ℕ) (end : ℕ) (words : List ℕ)
    → AgreeWords cat from width reached end words
    → (q : ℕ) → q < end → first_same words q ≡ leader_by cat from width reached q
unfolding first_same leader_by
leader_by_words cat from width reached end words h q l =
    first_from_same (λ p. eqb (get_or words p 0) (get_or words q 0)) (λ p. agree_by cat from width reached p q) q 0
    (λ p m n. h.same p q (omega arith) l)
