-- The reader of whole texts takes exactly the texts of the form whose rows the test takes.
use Prim.Native.Nat.{ℕ}
use mathlib.Core.Path.{◌≡◌, refl, sym, ap, subst, ◌∙◌}
use mathlib.Core.Bool.{Bool}
use mathlib.Core.List.{List, [], ◌∷◌}
use native.Mathlib.Decide.{ℕ_discrete}
use native.Mathlib.Omega.{arith}
use lib.ListN.{length}
use Rattle.columns.specs.Test.{if_eq}
use Rattle.columns.proofs.Test.{if_eq_yes, if_eq_no}
use Rattle.model.specs.Bounds.{table_bound, no_parent}
use Rattle.model.specs.Forest.{Cells, Forest, none}
use Rattle.model.specs.Xml.{Document, empty, filled, open_catalogue, catalogue_name, slash, greater}
use Rattle.model.specs.Form.{skip, word_at, rest_at, content_by, element_at, document_at}
use Rattle.readers.specs.Stands.{Stands}
use Rattle.readers.proofs.Next.{next_read}
use Rattle.spelling.proofs.Stands.{stands_join, stands_grows, stands_whole, whole_stands}
use Rattle.spelling.proofs.Small.{next_is, skip_sound, word_sound}
use Rattle.standing.specs.Tags.{TakenIn}
use Rattle.grammar.proofs.Rest.{Rest, ended, around, rest_read, rest_spelled, rest_ends, rest_some, rest_within}
use Rattle.grammar.proofs.Sound.{content_sound}
use Rattle.grammar.proofs.Complete.{content_complete, around_content}
use Rattle.grammar.proofs.Whole.{Whole, whole_join, whole_cut, filled_join, filled_cut, tag_at_lem}
use Rattle.grammar.proofs.Whole.{rest_at_lem, end_at_lem}

-- the content of the catalogue
abbrev in_catalogue : List ℕ → (ℕ → ℕ → Cells → Bool) → ℕ → ℕ
in_catalogue s fits = content_by s (element_at s fits table_bound no_parent)

-- a test for the end passed where it gives something
test_read : (a b : ℕ) {q : ℕ} → if_eq a b 1 0 ≡ q → (q ≡ 0 → ⊥) → a ≡ b
test_read a b {q} e n = at (ℕ_discrete a b)
  where
    at : Dec (a ≡ b) → a ≡ b
    at (yes y) = y
    at (no y) = absurd (n (sym e ∙ if_eq_no 1 y))

-- a text that is read has its parts
whole_read : (s : List ℕ) (fits : ℕ → ℕ → Cells → Bool) → (document_at s fits ≡ 0 → ⊥)
    → (c : ℕ) × (d : ℕ) × Whole s c d × Rest s (in_catalogue s fits) catalogue_name c d
unfolding document_at
whole_read s fits n =
    let b = word_at s open_catalogue (skip s 0) in
    let d = rest_at s (in_catalogue s fits) catalogue_name (skip s b) in
    let first = next_read b _ refl n in
    let second = next_read d _ first.1 n in
    let tag = word_sound {x = 60} {w = catalogue_name} {p = skip s 0} refl first.0 in
    let rest = rest_read s (in_catalogue s fits) catalogue_name (skip s b) refl second.0 in
    let before = skip_sound s 0 (omega arith) in
    let within = skip_sound s b tag.within in
    let behind = skip_sound s d (rest_within rest) in (
      skip s b,
      d,
      record {
        a = skip s 0;
        b = b;
        before = before.0;
        within = within.0;
        behind = behind.0;
        white_before = before.1;
        white_within = within.1;
        white_behind = behind.1;
        stands_before = before.2;
        tag = tag;
        stands_within = within.2;
        stands_behind =
            subst (λ (q : ℕ). Stands s d behind.0 q) (test_read (skip s d) (length s) second.1 n) behind.2;
      },
      rest,
    )

-- and one that has them is read
whole_spelled : (s : List ℕ) (fits : ℕ → ℕ → Cells → Bool) {c d : ℕ} → Whole s c d
    → Rest s (in_catalogue s fits) catalogue_name c d → document_at s fits ≡ 1
unfolding document_at
whole_spelled s fits w r =
    next_is _ (tag_at_lem w) (let g = stands_grows w.tag in omega arith)
    (next_is _ (ap (rest_at s (in_catalogue s fits) catalogue_name) (rest_at_lem w (rest_ends r)) ∙ rest_spelled r)
    (rest_some r)
    (if_eq_yes 0 (end_at_lem w)))

-- what stands from the start to the end is the text
text_whole : {s l : List ℕ} (f : Forest) → Document l f → Stands s 0 l (length s) → Document s f
text_whole f d h = subst (λ (l : List ℕ). Document l f) (stands_whole h) d

-- what is read is of the form, and the test took its rows
pub document_sound : (s : List ℕ) (fits : ℕ → ℕ → Cells → Bool) → (document_at s fits ≡ 0 → ⊥)
    → (f : Forest) × Document s f × TakenIn fits no_parent f
document_sound s fits n = let h = whole_read s fits n in by h.2 h.3
  where
    by : {c d : ℕ} → Whole s c d → Rest s (in_catalogue s fits) catalogue_name c d
        → (f : Forest) × Document s f × TakenIn fits no_parent f
    by w (ended h) =
        let text =
        text_whole none
        (empty w.before w.within w.behind w.white_before w.white_within w.white_behind)
        (whole_join w h) in
        (none, text, tt)
    by w (around b c h i z u v e) =
        let inner = content_sound s fits table_bound no_parent b c h.within i z in
        let text =
        text_whole inner.1
        (filled w.before w.within u w.behind w.white_before w.white_within v w.white_behind
        inner.2) (filled_join w inner.0 u (stands_join h (stands_join inner.3 e))) in
        (inner.1, text, inner.4)

-- what is of the form is read, where the test takes its rows
pub document_complete : (s : List ℕ) (fits : ℕ → ℕ → Cells → Bool) (f : Forest) → Document s f
    → TakenIn fits no_parent f → document_at s fits ≡ 1
document_complete s fits f (empty w u v hw hu hv) t =
    let cut = whole_cut s w u (slash ∷ greater ∷ []) v hw hu hv (whole_stands s) in
    whole_spelled s fits cut.2 (ended cut.3)
document_complete s fits f (filled {inner = inner} w u v x hw hu hv hx o) t =
    let cut = filled_cut s w u inner v x hw hu hx (whole_stands s) in
    whole_spelled s fits cut.2
    (around_content s _ catalogue_name inner v _ _ hv
    (λ a b i y z. content_complete s fits no_parent a b o i t y z) cut.3)
