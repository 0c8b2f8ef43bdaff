-- What a text means is unique: the rows of content are found from the text and the position alone.
use Prim.Native.Nat.{ℕ, zero, suc, ◌+◌, ◌<◌}
use mathlib.Core.Path.{◌≡◌, refl, sym, ap, ◌∙◌}
use mathlib.Core.Bool.{Bool, true, false}
use mathlib.Core.List.{List, [], ◌∷◌, ◌++◌}
use native.Mathlib.Omega.{arith}
use lib.ListN.{length, drop}
use Rattle.columns.specs.Test.{pick, if_eq}
use Rattle.columns.proofs.Test.{if_eq_yes, if_eq_no}
use Rattle.model.specs.Bounds.{table_bound}
use Rattle.model.specs.Bytes.{byte_at}
use Rattle.model.specs.Forest.{Cells, Forest, none, tree}
use Rattle.model.specs.Xml.{is_white, Element, Content, Document, blank, more, open_catalogue, slash, greater, close}
use Rattle.model.specs.Form.{number_in, capped, skip, word_at, tag_at, attributes_of, is_open, element_at}
use Rattle.readers.specs.Stands.{Stands}
use Rattle.numerals.proofs.Tagged.{attributes_distinct}
use Rattle.spelling.proofs.Stands.{stands_byte, whole_stands}
use Rattle.spelling.proofs.Small.{skip_complete}
use Rattle.standing.specs.Tags.{TakenIn}
use Rattle.grammar.proofs.Tag.{tag_cut, tag_number, tag_attributes, tag_spelled}
use Rattle.grammar.proofs.Rest.{slash_ends, greater_ends}
use Rattle.grammar.proofs.Content.{element_cut, content_cut}
use Rattle.grammar.proofs.Complete.{element_complete}
use Rattle.grammar.proofs.Whole.{whole_cut, filled_cut, tag_at_lem, rest_at_lem}

-- a test that takes every row
abbrev always : ℕ → ℕ → Cells → Bool
always up n cs = true

-- it takes those of every forest
taken_always : (f : Forest) (up : ℕ) → TakenIn always up f
taken_always none up = tt
taken_always (tree n cs inside after) up = (tt, (taken_always inside (capped n), taken_always after up))

-- the row of an element at p, by what is inside, before other rows
abbrev row_at : List ℕ → (ℕ → Forest) → ℕ → Forest → Forest
row_at s inside p after = tree (number_in (drop (p + 2) s)) (attributes_of s p) (inside p) after

-- at most n rows at p, by a reader of elements and what is inside them
rows_from : List ℕ → (ℕ → ℕ) → (ℕ → Forest) → ℕ → ℕ → Forest
rows_from s element inside zero p = none
rows_from s element inside (suc n) p =
    pick (is_open s (skip s p)) (row_at s inside (skip s p) (rows_from s element inside n (element (skip s p)))) none

-- the rows behind a tag that ends at a
rows_behind : List ℕ → (ℕ → Forest) → ℕ → Forest
rows_behind s content a = if_eq (byte_at s a) slash none (content (a + 1))

-- the rows inside an element at p, at most d deep, those of content, and those of a text
inside_at : List ℕ → ℕ → ℕ → Forest
inside_at s zero p = none
inside_at s (suc d) p =
    rows_behind s (rows_from s (element_at s always d 0) (inside_at s d) (suc (length s))) (tag_at s p)

abbrev rows_at : List ℕ → ℕ → ℕ → Forest
rows_at s d p = rows_from s (element_at s always d 0) (inside_at s d) (suc (length s)) p

rows_of : List ℕ → Forest
rows_of s = rows_behind s (rows_at s table_bound) (skip s (word_at s open_catalogue (skip s 0)))

-- content one row at a time: none, and one more
rows_done : (s : List ℕ) (element : ℕ → ℕ) (inside : ℕ → Forest) (n p : ℕ) {r : ℕ} → skip s p ≡ r
    → is_open s r ≡ false → rows_from s element inside n p ≡ none
unfolding rows_from
rows_done s element inside zero p e o = refl
rows_done s element inside (suc n) p e o =
    let after = rows_from s element inside n (element (skip s p)) in
    ap (λ (t : Bool). pick t (row_at s inside (skip s p) after) none) (ap (is_open s) e ∙ o)

rows_more : (s : List ℕ) (element : ℕ → ℕ) (inside : ℕ → Forest) (n p : ℕ) {r : ℕ} → skip s p ≡ r
    → is_open s r ≡ true
    → rows_from s element inside (suc n) p ≡ row_at s inside r (rows_from s element inside n (element r))
unfolding rows_from
rows_more s element inside n p {r} e o =
    ap (λ (q : ℕ). pick (is_open s q) (row_at s inside q (rows_from s element inside n (element q))) none) e
    ∙ ap (λ (t : Bool). pick t (row_at s inside r (rows_from s element inside n (element r))) none) o

-- an element at p says which row it is
abbrev Means : List ℕ → ℕ → ℕ → ℕ → Cells → Forest → Type 0
Means s d p n cells inside =
    (number_in (drop (p + 2) s) ≡ n) × (attributes_of s p ≡ cells) × (inside_at s d p ≡ inside)

-- every element at most d deep in the text does
abbrev ElementsMean : List ℕ → ℕ → Type 0
ElementsMean s d =
    (l : List ℕ) (n : ℕ) (cells : Cells) (inside : Forest) (p q : ℕ) → Element d l n cells inside → Stands s p l q
    → Means s d p n cells inside

-- equal parts make equal rows
same_tree : {n m : ℕ} {cs es : Cells} {f g i j : Forest} → n ≡ m → cs ≡ es → f ≡ g → i ≡ j
    → tree n cs f i ≡ tree m es g j
same_tree a b c d = cc

-- content, by the law of elements of its depth
content_by_lem : {d : ℕ} {l : List ℕ} {f : Forest} → Content d l f → (s : List ℕ) (left p q : ℕ) → ElementsMean s d
    → length s < p + left → Stands s p l q → is_white (byte_at s q) ≡ false → is_open s q ≡ false
    → rows_from s (element_at s always d 0) (inside_at s d) left p ≡ f
content_by_lem (blank {d} w h) s left p q law k e x y =
    rows_done s (element_at s always d 0) (inside_at s d) left p (skip_complete e h x) y
content_by_lem (more w h o c) s zero p q law k e x y = absurd (omega arith)
content_by_lem (more {d} {table} {l} {rest} {cells} {inside} {after} w h o c) s (suc left) p q law k e x y =
    let cut = element_cut s p q w l rest h o e in
    let row = law l table cells inside cut.0 cut.1 o cut.4 in
    let read =
    element_complete s always d 0 l table cells inside cut.0 cut.1 o cut.4 tt (taken_always inside _) in
    let others = content_by_lem c s left cut.1 q law (omega arith) cut.5 x y in
    rows_more s (element_at s always d 0) (inside_at s d) left p cut.2 cut.3
    ∙ same_tree row.0 row.1 row.2
    (ap (rows_from s (element_at s always d 0) (inside_at s d) left) read ∙ others)

-- the rows behind a tag
behind_none : {s r : List ℕ} (content : ℕ → Forest) {a q : ℕ} → Stands s a (slash ∷ r) q
    → rows_behind s content a ≡ none
unfolding rows_behind
behind_none content h = if_eq_yes _ (stands_byte h)

behind_some : {s r : List ℕ} (content : ℕ → Forest) {a q : ℕ} → Stands s a (greater ∷ r) q
    → rows_behind s content a ≡ content (a + 1)
unfolding rows_behind
behind_some content h = if_eq_no none (λ y. let z = stands_byte h in omega arith)

-- and where content stands there
behind_content : {d : ℕ} {inner : List ℕ} {f : Forest} → Content d inner f
    → (s : List ℕ) (a : ℕ) (rest : List ℕ) (q : ℕ) → ElementsMean s d
    → Stands s a (greater ∷ (inner ++ (close ++ rest))) q → rows_behind s (rows_at s d) a ≡ f
behind_content {d} {inner} o s a rest q law h =
    let cut = content_cut s a inner rest q h in
    behind_some (rows_at s d) h
    ∙ content_by_lem o s (suc (length s)) (a + 1) cut.0 law (omega arith) cut.2 cut.4 cut.5

-- so every element of any depth does
element_means : (s : List ℕ) (d : ℕ) → ElementsMean s d
unfolding inside_at
element_means s zero l n cells inside p q o e = elim o [ ]
element_means s (suc d) l n cells inside p q (Element.empty o w h) e =
    let cut = tag_cut s p n w (slash ∷ greater ∷ []) q o h e in
    let ends = slash_ends cut.2 in (
      tag_number cut.1 ends,
      tag_attributes cut.1 ends,
      ap (rows_behind s (rows_at s d)) (tag_spelled cut.1 ends (attributes_distinct o)) ∙ behind_none _ cut.2,
    )
element_means s (suc d) l n cells inside p q (Element.filled {inner = inner} o w h c u i) e =
    let cut = tag_cut s p n w _ q o h e in
    let ends = greater_ends cut.2 in (
      tag_number cut.1 ends,
      tag_attributes cut.1 ends,
      ap (rows_behind s (rows_at s d)) (tag_spelled cut.1 ends (attributes_distinct o))
          ∙ behind_content c s cut.0 _ q (element_means s d) cut.2,
    )

-- the rows of a text
document_means : {s : List ℕ} {f : Forest} → Document s f → rows_of s ≡ f
unfolding rows_of
document_means {s} (Document.empty w u v hw hu hv) =
    let cut = whole_cut s w u (slash ∷ greater ∷ []) v hw hu hv (whole_stands s) in
    ap (rows_behind s (rows_at s table_bound)) (ap (skip s) (tag_at_lem cut.2) ∙ rest_at_lem cut.2 (slash_ends cut.3))
    ∙ behind_none _ cut.3
document_means {s} (Document.filled {inner = inner} w u v x hw hu hv hx o) =
    let cut = filled_cut s w u inner v x hw hu hx (whole_stands s) in
    ap (rows_behind s (rows_at s table_bound)) (ap (skip s) (tag_at_lem cut.2) ∙ rest_at_lem cut.2 (greater_ends cut.3))
    ∙ behind_content o s cut.0 _ cut.1 (element_means s table_bound) cut.3

-- what a text means is unique
pub meaning_unique : (s : List ℕ) (f g : Forest) → Document s f → Document s g → f ≡ g
meaning_unique s f g d e = sym (document_means d) ∙ document_means e
