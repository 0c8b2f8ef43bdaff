-- The parts of a line, and the lines of a run, one behind the other.
use Prim.Native.Nat.{ℕ, ◌+◌, ◌≤◌, ◌<◌}
use mathlib.Core.Path.{◌≡◌, sym, ap, ◌∙◌}
use mathlib.Core.List.{List, [], ◌∷◌, ◌++◌, append-nil}
use native.Mathlib.Numerals.{add-one}
use lib.ListN.{length, take, get_or}
use lib.Seq.{take-suc, take_all}
use Rattle.model.specs.Text.{decimal, tables_word, sets_word, entries_word, refused_word, line_feed}
use Rattle.model.specs.Text.{entry_text, entry_line, lines_of, head_line, refused_line}
use Rattle.model.specs.declared.Entry.{Entry}
use Rattle.model.proofs.Text.{lines_append}
use Rattle.text.specs.Puts.{Puts}
use Rattle.text.proofs.Puts.{puts_none, puts_both, puts_same}

pub puts_line : (e : Entry) {at : ℕ} {b₀ b₁ b₂ : List ℕ} {n₁ n₂ : ℕ} → Puts (entry_text e) at b₀ b₁ n₁
    → Puts line_feed n₁ b₁ b₂ n₂ → Puts (entry_line e) at b₀ b₂ n₂
unfolding entry_line
puts_line e p q = puts_both (entry_text e) line_feed p q

pub puts_no_line : (run : List Entry) (at : ℕ) (cat : List ℕ) → Puts (lines_of (take 0 run)) at cat cat at
unfolding lines_of
puts_no_line run at cat = puts_none at cat

-- one entry more
one_more : (run : List Entry) (i : ℕ) (d : Entry) → i < length run
    → lines_of (take i run) ++ entry_line (get_or run i d) ≡ lines_of (take (i + 1) run)
unfolding lines_of
one_more run i d h =
    ap (λ (l : List ℕ). lines_of (take i run) ++ l) (sym (append-nil (entry_line (get_or run i d))))
    ∙ sym (lines_append (take i run) (get_or run i d ∷ []))
    ∙ ap lines_of (sym (ap (λ (k : ℕ). take k run) (add-one i) ∙ take-suc run i d h))

pub puts_line_more : (run : List Entry) (i : ℕ) (d : Entry) {at : ℕ} {b₀ b₁ b₂ : List ℕ} {n₁ n₂ : ℕ} → i < length run
    → Puts (lines_of (take i run)) at b₀ b₁ n₁ → Puts (entry_line (get_or run i d)) n₁ b₁ b₂ n₂
    → Puts (lines_of (take (i + 1) run)) at b₀ b₂ n₂
puts_line_more run i d h p q =
    puts_same (one_more run i d h) (puts_both (lines_of (take i run)) (entry_line (get_or run i d)) p q)

pub puts_all : (run : List Entry) (i : ℕ) {at : ℕ} {b₀ b₁ : List ℕ} {n₁ : ℕ} → length run ≤ i
    → Puts (lines_of (take i run)) at b₀ b₁ n₁ → Puts (lines_of run) at b₀ b₁ n₁
puts_all run i h p = puts_same (ap lines_of (take_all i run h)) p

pub puts_head : (tables sets entries : ℕ) {b₀ b₁ b₂ b₃ b₄ b₅ b₆ b₇ : List ℕ} {n₁ n₂ n₃ n₄ n₅ n₆ n₇ : ℕ}
    → Puts tables_word 0 b₀ b₁ n₁ → Puts (decimal tables) n₁ b₁ b₂ n₂ → Puts sets_word n₂ b₂ b₃ n₃
    → Puts (decimal sets) n₃ b₃ b₄ n₄ → Puts entries_word n₄ b₄ b₅ n₅ → Puts (decimal entries) n₅ b₅ b₆ n₆
    → Puts line_feed n₆ b₆ b₇ n₇ → Puts (head_line tables sets entries) 0 b₀ b₇ n₇
unfolding head_line
puts_head tables sets entries p₁ t p₂ s p₃ e p₄ =
    puts_both tables_word (decimal tables
    ++ (sets_word ++ (decimal sets ++ (entries_word ++ (decimal entries ++ line_feed))))) p₁
    (puts_both (decimal tables) (sets_word ++ (decimal sets ++ (entries_word ++ (decimal entries ++ line_feed)))) t
    (puts_both sets_word (decimal sets ++ (entries_word ++ (decimal entries ++ line_feed))) p₂
    (puts_both (decimal sets) (entries_word ++ (decimal entries ++ line_feed)) s
    (puts_both entries_word (decimal entries ++ line_feed) p₃ (puts_both (decimal entries) line_feed e p₄)))))

pub puts_refused : (number : ℕ) {b₀ b₁ b₂ b₃ : List ℕ} {n₁ n₂ n₃ : ℕ} → Puts refused_word 0 b₀ b₁ n₁
    → Puts (decimal number) n₁ b₁ b₂ n₂ → Puts line_feed n₂ b₂ b₃ n₃ → Puts (refused_line number) 0 b₀ b₃ n₃
unfolding refused_line
puts_refused number p n q =
    puts_both refused_word (decimal number ++ line_feed) p (puts_both (decimal number) line_feed n q)
