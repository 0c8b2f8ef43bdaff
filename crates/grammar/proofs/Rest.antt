-- The rest of an element from the end of its tag on: it is read exactly where it is spelled.
use Prim.Native.Nat.{ℕ, ◌+◌, ◌≤◌}
use mathlib.Core.Path.{◌≡◌, refl, sym, ap, subst, ◌∙◌}
use mathlib.Core.List.{List, [], ◌∷◌, ◌++◌}
use native.Mathlib.Decide.{ℕ_discrete}
use native.Mathlib.Omega.{arith}
use lib.ListN.{length, drop}
use Rattle.columns.proofs.Test.{if_eq_yes, if_eq_no}
use Rattle.model.specs.Bytes.{byte_at}
use Rattle.model.specs.Xml.{is_white, White, slash, greater, close}
use Rattle.model.specs.Form.{next, expect, word_at, end_at, rest_at}
use Rattle.readers.specs.Stands.{Stands}
use Rattle.readers.proofs.Next.{next_read}
use Rattle.numerals.specs.Tagged.{TagEnd, by_greater, by_slash}
use Rattle.spelling.proofs.Stands.{stands_cut, stands_join, stands_one, stands_rest, stands_byte, stands_inside}
use Rattle.spelling.proofs.Stands.{stands_grows, stands_none, none_stands}
use Rattle.spelling.proofs.Small.{next_is, skip_sound, skip_complete, expect_sound, expect_complete, word_sound}
use Rattle.spelling.proofs.Small.{word_complete}

-- `/>`, or `>`, what the reader `inside` reads, and the end tag of the name
pub data Rest (s : List ℕ) (inside : ℕ → ℕ) (name : List ℕ) (p q : ℕ) : Type 0 where
  ended : Stands s p (slash ∷ greater ∷ []) q → Rest s inside name p q
  around : (b c : ℕ) → Stands s p (greater ∷ []) b → inside b ≡ c → (c ≡ 0 → ⊥) → (u : List ℕ) → White u
      → Stands s c (close ++ (name ++ (u ++ (greater ∷ [])))) q → Rest s inside name p q

-- a name, of any length
name_read : (s name : List ℕ) (p : ℕ) {q : ℕ} → p ≤ length s → word_at s name p ≡ q → (q ≡ 0 → ⊥) → Stands s p name q
unfolding word_at
name_read s [] p l e n = subst (λ (r : ℕ). Stands s p [] r) e (stands_none s p l)
name_read s (x ∷ name) p l e n = word_sound e n

name_spelled : {s name : List ℕ} {p q : ℕ} → Stands s p name q → word_at s name p ≡ q
unfolding word_at
name_spelled {name = []} h = sym (none_stands h)
name_spelled {name = x ∷ name} h = word_complete h

-- an end tag
end_read : (s name : List ℕ) (p : ℕ) {q : ℕ} → end_at s name p ≡ q → (q ≡ 0 → ⊥)
    → (u : List ℕ) × White u × Stands s p (close ++ (name ++ (u ++ (greater ∷ [])))) q
unfolding end_at
end_read s name p e n =
    let first = next_read _ _ e n in
    let second = next_read _ _ first.1 n in
    let opens = word_sound {x = 60} {w = 47 ∷ []} refl first.0 in
    let named = name_read s name (word_at s close p) opens.within refl second.0 in
    let space = skip_sound s (word_at s name (word_at s close p)) named.within in
    (space.0, space.1, stands_join opens (stands_join named (stands_join space.2 (expect_sound second.1 n))))

end_spelled : (s name : List ℕ) (p : ℕ) (u : List ℕ) (q : ℕ) → White u
    → Stands s p (close ++ (name ++ (u ++ (greater ∷ [])))) q → end_at s name p ≡ q
unfolding end_at
end_spelled s name p u q h e =
    let first = stands_cut s p close (name ++ (u ++ (greater ∷ []))) q e in
    let second = stands_cut s (p + 2) name (u ++ (greater ∷ [])) q first.1 in
    let third = stands_cut s (p + 2 + length name) u (greater ∷ []) q second.1 in
    next_is _ (word_complete first.0) (omega arith)
    (next_is _ (name_spelled second.0) (omega arith)
    (ap (λ (r : ℕ). expect s greater r) (skip_complete third.0 h (ap is_white (stands_byte third.1)))
    ∙ expect_complete third.1))

-- what is read is spelled
pub rest_read : (s : List ℕ) (inside : ℕ → ℕ) (name : List ℕ) (p : ℕ) {q : ℕ}
    → rest_at s inside name p ≡ q → (q ≡ 0 → ⊥) → Rest s inside name p q
unfolding rest_at
rest_read s inside name p {q} e n = at (ℕ_discrete (byte_at s p) slash)
  where
    at : Dec (byte_at s p ≡ slash) → Rest s inside name p q
    at (yes y) =
        let h = expect_sound (sym (if_eq_yes _ y) ∙ e) n in
        let i = stands_inside h in
        ended (stands_join (subst (λ (z : ℕ). Stands s p (z ∷ []) (p + 1)) y (stands_one s p (omega arith))) h)
    at (no y) =
        let first = next_read (expect s greater p) (λ a. next (inside a) (end_at s name)) (sym (if_eq_no _ y) ∙ e) n in
        let second = next_read _ _ first.1 n in
        let last = end_read s name _ second.1 n in
        around _ _ (expect_sound refl first.0) refl second.0 last.0 last.1 last.2

-- what is spelled is read
pub rest_spelled : {s : List ℕ} {inside : ℕ → ℕ} {name : List ℕ} {p q : ℕ} → Rest s inside name p q
    → rest_at s inside name p ≡ q
unfolding rest_at
rest_spelled {s} {inside} {name} {p} {q} (ended h) =
    if_eq_yes _ (stands_byte h) ∙ expect_complete (stands_rest h)
rest_spelled {s} {inside} {name} {p} {q} (around b c h i n u w e) =
    let g = stands_grows h in
    if_eq_no (expect s greater (p + 1)) (λ y. let z = stands_byte h in omega arith)
    ∙ next_is _ (expect_complete h) (omega arith)
    (next_is _ i n (end_spelled s name c u q w e))

-- it begins as a tag ends
pub slash_ends : {s r : List ℕ} {p q : ℕ} → Stands s p (slash ∷ greater ∷ r) q → TagEnd (drop p s)
slash_ends h = subst TagEnd (sym h.text) (by_slash _)

pub greater_ends : {s r : List ℕ} {p q : ℕ} → Stands s p (greater ∷ r) q → TagEnd (drop p s)
greater_ends h = subst TagEnd (sym h.text) (by_greater _)

pub rest_ends : {s : List ℕ} {inside : ℕ → ℕ} {name : List ℕ} {p q : ℕ} → Rest s inside name p q → TagEnd (drop p s)
rest_ends (ended h) = slash_ends h
rest_ends (around b c h i n u w e) = greater_ends h

-- it does not end at 0, which stands for nothing read
pub rest_some : {s : List ℕ} {inside : ℕ → ℕ} {name : List ℕ} {p q : ℕ} → Rest s inside name p q → q ≡ 0 → ⊥
rest_some (ended h) z = let g = stands_grows h in omega arith
rest_some (around b c h i n u w e) z = let g = stands_grows e in omega arith

-- it ends inside the text
pub rest_within : {s : List ℕ} {inside : ℕ → ℕ} {name : List ℕ} {p q : ℕ} → Rest s inside name p q → q ≤ length s
rest_within (ended h) = h.within
rest_within (around b c h i n u w e) = e.within
