-- Words put one behind the other are their joined word; the text of an entry.
use Prim.Native.Nat.{ℕ, suc, ◌+◌, ◌≤◌, ◌<◌}
use mathlib.Core.Path.{◌≡◌, refl, sym, subst, ap, ap₂, ◌∙◌}
use mathlib.Core.List.{List, [], ◌∷◌, ◌++◌}
use native.Mathlib.Numerals.{add-one}
use native.Mathlib.Omega.{arith}
use lib.ListN.{length, length-append, set, take, drop, get_or}
use lib.Seq.{sets, sets-eq, take-suc, take_all, take-append_seam}
use Rattle.model.specs.declared.Entry.{Entry}
use Rattle.model.specs.Text.{decimal, right_text, entry_text, space}
use Rattle.text.specs.Puts.{Puts}

sets_append : (w v l : List ℕ) (i : ℕ) → sets l i (w ++ v) ≡ sets (sets l i w) (i + length w) v
sets_append [] v l i = ap (λ (k : ℕ). sets l k v) (omega arith)
sets_append (x ∷ w) v l i =
    sets_append w v (set l i x) (suc i) ∙ ap (λ (k : ℕ). sets (sets (set l i x) (suc i) w) k v) (omega arith)

pub puts_none : (at : ℕ) (b : List ℕ) → Puts [] at b b at
puts_none at b = record { same = refl; bytes = λ _. refl; behind = λ _. omega arith }

pub puts_both : (w v : List ℕ) {at : ℕ} {b c d : List ℕ} {m n : ℕ} → Puts w at b c m → Puts v m c d n
    → Puts (w ++ v) at b d n
puts_both w v {at} {b} {c} {d} {m} {n} p q = record {
  same = q.same ∙ p.same;
  bytes = λ h.
      q.bytes (fits h) ∙ ap₂ (λ (l : List ℕ) (k : ℕ). sets l k v) (p.bytes (first h)) (p.behind (first h))
      ∙ sym (sets_append w v b at);
  behind = λ h.
      let e : n ≡ m + length v = q.behind (fits h) in
      let f : m ≡ at + length w = p.behind (first h) in
      omega (arith, length-append w v);
}
  where
    first : at + length (w ++ v) ≤ length b → at + length w ≤ length b
    first h = omega (arith, length-append w v)

    fits : at + length (w ++ v) ≤ length b → m + length v ≤ length c
    fits h =
        let f : m ≡ at + length w = p.behind (first h) in
        omega (arith, length-append w v, p.same)

-- a word that does not fit
pub puts_past : (w : List ℕ) (at : ℕ) (b : List ℕ) → length b < at + length w → Puts w at b b at
puts_past w at b l = record { same = refl; bytes = λ h. absurd (omega arith); behind = λ h. absurd (omega arith) }

-- one byte more of a word, and all of its bytes
pub puts_more : (word : List ℕ) (i : ℕ) {at : ℕ} {b c d : List ℕ} {m n : ℕ} → i < length word
    → Puts (take i word) at b c m → Puts (get_or word i 0 ∷ []) m c d n → Puts (take (i + 1) word) at b d n
puts_more word i {at} {b} {c} {d} {m} {n} h p q =
    subst (λ (w : List ℕ). Puts w at b d n) (sym (ap (λ (k : ℕ). take k word) (add-one i) ∙ take-suc word i 0 h))
    (puts_both (take i word) (get_or word i 0 ∷ []) p q)

pub puts_whole : (word : List ℕ) (i : ℕ) {at : ℕ} {b c : List ℕ} {m : ℕ} → length word ≤ i → Puts (take i word) at b c m
    → Puts word at b c m
puts_whole word i {at} {b} {c} {m} h p = subst (λ (w : List ℕ). Puts w at b c m) (take_all i word h) p

-- the parts of an entry's text, one behind the other
pub puts_entry : (e : Entry) {at : ℕ} {b₀ b₁ b₂ b₃ b₄ b₅ : List ℕ} {n₁ n₂ n₃ n₄ n₅ : ℕ}
    → Puts (decimal e.target) at b₀ b₁ n₁
    → Puts space n₁ b₁ b₂ n₂ → Puts (decimal e.left) n₂ b₂ b₃ n₃ → Puts space n₃ b₃ b₄ n₄
    → Puts (right_text e.right) n₄ b₄ b₅ n₅ → Puts (entry_text e) at b₀ b₅ n₅
unfolding entry_text
puts_entry e t s l u r =
    puts_both (decimal e.target) (space ++ (decimal e.left ++ (space ++ right_text e.right))) t
    (puts_both space (decimal e.left ++ (space ++ right_text e.right)) s
    (puts_both (decimal e.left) (space ++ right_text e.right) l (puts_both space (right_text e.right) u r)))

-- the same word by another name
pub puts_same : {w v : List ℕ} {at : ℕ} {b c : List ℕ} {n : ℕ} → w ≡ v → Puts w at b c n → Puts v at b c n
puts_same {at} {b} {c} {n} e p = subst (λ (u : List ℕ). Puts u at b c n) e p

-- a word put at the start, where it fits: it is the first bytes, and the next position says how many
pub puts_first : (w : List ℕ) {b c : List ℕ} {n : ℕ} → Puts w 0 b c n → length w ≤ length b
    → (n ≡ length w) × (take n c ≡ w)
puts_first w {b} {c} {n} p h =
    (long, ap₂ (λ (k : ℕ) (l : List ℕ). take k l) long there ∙ take-append_seam w (drop (0 + length w) b))
  where
    long : n ≡ length w
    long = omega (arith, p.behind (omega arith))

    there : c ≡ w ++ drop (0 + length w) b
    there = p.bytes (omega arith) ∙ sets-eq w b 0 (omega arith)
