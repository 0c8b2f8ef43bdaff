-- Where an element or content is read, it is spelled, and the test took each of its rows.
use Prim.Native.Nat.{ℕ, zero, suc, ◌+◌, ◌≤◌, ◌<◌}
use mathlib.Core.Path.{◌≡◌, refl, sym, ap, subst, ◌∙◌}
use mathlib.Core.Bool.{Bool, true, false}
use mathlib.Core.List.{List, ◌∷◌, ◌++◌}
use native.Mathlib.Decide.{ℕ_discrete}
use native.Mathlib.Omega.{arith}
use lib.Dec.{T}
use lib.ListN.{length}
use Rattle.model.specs.Text.{decimal}
use Rattle.model.specs.Forest.{Cells, Forest, none, tree}
use Rattle.model.specs.Xml.{Element, Content, empty, filled, blank, more, row_letter}
use Rattle.model.specs.Form.{capped, is_distinct, skip, tag_at, attributes_of, name_of, is_open, content_by, element_at}
use Rattle.model.proofs.Truth.{true_is}
use Rattle.readers.specs.Stands.{Stands}
use Rattle.standing.specs.Tags.{TakenIn}
use Rattle.numerals.proofs.Tagged.{loose_distinct}
use Rattle.spelling.proofs.Stands.{stands_join}
use Rattle.spelling.proofs.Small.{skip_sound, skip_le}
use Rattle.grammar.proofs.Tag.{Tag, tag_read, tag_table, tag_attributes, tag_name, tag_join}
use Rattle.grammar.proofs.Rest.{Rest, ended, around, rest_ends}
use Rattle.grammar.proofs.Progress.{no_depth, element_parts, element_onward, element_goes_on}
use Rattle.grammar.proofs.Content.{content_done, content_fails, content_more}

-- an element at most d deep is spelled from p to q, and the test takes its rows in a row of table `up`; and content
abbrev pub ElementIn : List ℕ → (ℕ → ℕ → Cells → Bool) → ℕ → ℕ → ℕ → ℕ → Type 0
ElementIn s fits d up p q =
    (l : List ℕ) × (n : ℕ) × (cells : Cells) × (inside : Forest) × Element d l n cells inside × Stands s p l q
    × T (fits up (capped n) cells) × TakenIn fits (capped n) inside

abbrev pub ContentIn : List ℕ → (ℕ → ℕ → Cells → Bool) → ℕ → ℕ → ℕ → ℕ → Type 0
ContentIn s fits d up p q =
    (l : List ℕ) × (f : Forest) × Content d l f × Stands s p l q × TakenIn fits up f

-- content, by the law of elements of its depth and what is left of the text
content_by_lem : (s : List ℕ) (fits : ℕ → ℕ → Cells → Bool) (d up : ℕ)
    → ((p q : ℕ) → element_at s fits d up p ≡ q → (q ≡ 0 → ⊥) → ElementIn s fits d up p q)
    → (left p q : ℕ) → length s < p + left → p ≤ length s → content_by s (element_at s fits d up) p ≡ q → (q ≡ 0 → ⊥)
    → ContentIn s fits d up p q
content_by_lem s fits d up law zero p q l i e n = absurd (omega arith)
content_by_lem s fits d up law (suc left) p q l i e n =
    at (is_open s (skip s p)) refl (ℕ_discrete (element_at s fits d up (skip s p)) 0)
    (λ r h j. content_by_lem s fits d up law left r q h j)
  where
    at : (t : Bool) → is_open s (skip s p) ≡ t → Dec (element_at s fits d up (skip s p) ≡ 0)
        → ((r : ℕ) → length s < r + left → r ≤ length s → content_by s (element_at s fits d up) r ≡ q → (q ≡ 0 → ⊥)
        → ContentIn s fits d up r q)
        → ContentIn s fits d up p q
    at false o z rest =
        let w = skip_sound s p i in
        let m = content_done s (element_at s fits d up) (element_goes_on s fits d up) p refl o in
        (w.0, none, blank w.0 w.1, subst (λ (r : ℕ). Stands s p w.0 r) (sym m ∙ e) w.2, tt)
    at true o (yes z) rest =
        absurd (n (sym e ∙ content_fails s (element_at s fits d up) (element_goes_on s fits d up) p refl o z))
    at true o (no z) rest =
        let w = skip_sound s p i in
        let a = element_at s fits d up (skip s p) in
        let h = law (skip s p) a refl z in
        let m = content_more s (element_at s fits d up) (element_goes_on s fits d up) p refl o refl z in
        let k = element_onward s fits d up (skip s p) a refl z in
        let c = rest a (omega (arith, skip_le s p)) h.5.within (sym m ∙ e) n in (
          w.0 ++ (h.0 ++ c.0),
          tree h.1 h.2 h.3 c.1,
          more w.0 w.1 h.4 c.2,
          stands_join w.2 (stands_join h.5 c.3),
          (h.6, (h.7, c.4)),
        )

-- an element, by its tag, its rest and the law of its content
element_by : (s : List ℕ) (fits : ℕ → ℕ → Cells → Bool) (d up : ℕ) {p a n q : ℕ} {cells : Cells}
    → Tag s p a n cells → is_distinct cells ≡ true → T (fits up (capped n) cells)
    → ((b c : ℕ) → b ≤ length s → content_by s (element_at s fits d (capped n)) b ≡ c → (c ≡ 0 → ⊥)
    → ContentIn s fits d (capped n) b c)
    → Rest s (content_by s (element_at s fits d (capped n))) (row_letter ∷ decimal n) a q
    → ElementIn s fits (suc d) up p q
element_by s fits d up {n} {cells} t o f law (ended h) =
    (_, n, cells, none, empty (loose_distinct t.loose o) t.space t.white, tag_join t h, f, tt)
element_by s fits d up {n} {cells} t o f law (around b c h i z u w e) =
    let inner = law b c h.within i z in (
      _,
      n,
      cells,
      inner.1,
      filled (loose_distinct t.loose o) t.space t.white inner.2 u w,
      tag_join t (stands_join h (stands_join inner.3 e)),
      f,
      inner.4,
    )

-- an element that is read is spelled
pub element_sound : (s : List ℕ) (fits : ℕ → ℕ → Cells → Bool) (d up p q : ℕ) → element_at s fits d up p ≡ q
    → (q ≡ 0 → ⊥) → ElementIn s fits d up p q
element_sound s fits zero up p q e n = absurd (n (sym e ∙ no_depth s fits up p))
element_sound s fits (suc d) up p q e n =
    let h = element_parts s fits d up p e n in
    let r = tag_read s p refl h.0 in
    let t = r.2 in
    let ends = rest_ends h.2 in
    let number = tag_table t ends in
    let cells = tag_attributes t ends in
    element_by s fits d up t (sym (ap is_distinct cells) ∙ r.3)
    (subst (λ (c : Cells). T (fits up (capped r.0) c)) cells
    (subst (λ (m : ℕ). T (fits up m (attributes_of s p))) number (true_is h.1)))
    (λ b c i. content_by_lem s fits d _ (element_sound s fits d _) (suc (length s)) b c (omega arith) i)
    (subst (λ (l : List ℕ). Rest s (content_by s (element_at s fits d (capped r.0))) l (tag_at s p) q) (tag_name t ends)
    (subst (λ (m : ℕ). Rest s (content_by s (element_at s fits d m)) (name_of s p) (tag_at s p) q) number h.2))

-- and so is content
pub content_sound : (s : List ℕ) (fits : ℕ → ℕ → Cells → Bool) (d up p q : ℕ) → p ≤ length s
    → content_by s (element_at s fits d up) p ≡ q → (q ≡ 0 → ⊥) → ContentIn s fits d up p q
content_sound s fits d up p q i e n =
    content_by_lem s fits d up (element_sound s fits d up) (suc (length s)) p q (omega arith) i e n
