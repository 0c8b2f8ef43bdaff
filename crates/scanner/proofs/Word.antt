-- A word in a text, byte by byte.
use Prim.Native.Nat.{ℕ, ◌+◌, ◌≤◌, ◌<◌}
use mathlib.Core.Path.{◌≡◌, sym, ap, ◌∙◌}
use mathlib.Core.List.{List}
use native.Mathlib.Numerals.{add-one}
use lib.ListN.{length, get_or, drop, drop_of_length-le}
use lib.Seq.{drop-cons}
use Rattle.model.specs.Form.{next, expect, word_at}
use Rattle.readers.proofs.Next.{next_none, next_some}

module _ (s word : List ℕ) {i : ℕ} (p : ℕ) where
  -- nothing is left of it
  pub word_past : length word ≤ i → word_at s (drop i word) p ≡ p
  unfolding word_at
  word_past h = ap (λ (w : List ℕ). word_at s w p) (drop_of_length-le word h)

  step : i < length word
      → word_at s (drop i word) p ≡ next (expect s (get_or word i 0) p) (word_at s (drop (i + 1) word))
  unfolding word_at
  step h =
      ap (λ (w : List ℕ). word_at s w p) (drop-cons word i 0 h)
      ∙ ap (λ (n : ℕ). next (expect s (get_or word i 0) p) (word_at s (drop n word))) (sym (add-one i))

  -- its byte i is not there, or it is
  pub word_none : {q : ℕ} → i < length word → q ≡ expect s (get_or word i 0) p → q ≡ 0 → word_at s (drop i word) p ≡ 0
  word_none h e z = step h ∙ next_none _ (sym e ∙ z)

  pub word_more : {q : ℕ} → i < length word → q ≡ expect s (get_or word i 0) p → (q ≡ 0 → ⊥)
      → word_at s (drop i word) p ≡ word_at s (drop (i + 1) word) q
  word_more h e z =
      step h ∙ (ap (λ (r : ℕ). next r (word_at s (drop (i + 1) word))) (sym e) ∙ next_some _ z)
