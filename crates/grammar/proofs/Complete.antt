-- Where an element or content is spelled and the test takes each of its rows, it is read.
use Prim.Native.Nat.{ℕ, zero, suc, ◌+◌}
use mathlib.Core.Path.{◌≡◌, ap, ◌∙◌}
use mathlib.Core.Bool.{Bool, true, false}
use mathlib.Core.List.{List, [], ◌∷◌, ◌++◌}
use native.Mathlib.Omega.{arith}
use lib.Dec.{T}
use lib.ListN.{drop}
use Rattle.columns.specs.Test.{pick}
use Rattle.model.specs.Bytes.{byte_at}
use Rattle.model.specs.Text.{decimal}
use Rattle.model.specs.Forest.{Cells, Forest}
use Rattle.model.specs.Xml.{is_white, White, Attributes, Element, Content, empty, filled, blank, more, open_row}
use Rattle.model.specs.Xml.{row_letter, greater, close}
use Rattle.model.specs.Form.{capped, is_distinct, table_of, attributes_of, name_of, rest_at, is_open}
use Rattle.model.specs.Form.{content_by, element_at}
use Rattle.model.proofs.Truth.{is_true}
use Rattle.readers.specs.Stands.{Stands}
use Rattle.standing.specs.Tags.{TakenIn}
use Rattle.numerals.specs.Tagged.{TagEnd}
use Rattle.numerals.proofs.Tagged.{attributes_distinct}
use Rattle.spelling.proofs.Stands.{stands_grows}
use Rattle.spelling.proofs.Small.{next_is, skip_complete}
use Rattle.grammar.proofs.Tag.{Tag, tag_spelled, tag_table, tag_attributes, tag_name, tag_cut}
use Rattle.grammar.proofs.Rest.{Rest, ended, around, rest_spelled, rest_ends}
use Rattle.grammar.proofs.Progress.{element_goes_on}
use Rattle.grammar.proofs.Content.{element_cut, content_cut, content_done, content_more}

-- an element, by its tag and its rest
element_by : (s : List ℕ) (fits : ℕ → ℕ → Cells → Bool) (d up : ℕ) {p a n q : ℕ} {cells : Cells}
    → Tag s p a n cells → is_distinct cells ≡ true → T (fits up (capped n) cells)
    → Rest s (content_by s (element_at s fits d (capped n))) (row_letter ∷ decimal n) a q
    → element_at s fits (suc d) up p ≡ q
unfolding element_at
element_by s fits d up {p} {a} {n} {q} t o f r =
    next_is _ (tag_spelled t ends o) (let g = stands_grows t.stands in omega arith)
    (ap (λ (b : Bool). pick b (rest (table_of s p) (name_of s p)) 0) taken
    ∙ (ap (λ (m : ℕ). rest m (name_of s p)) (tag_table t ends)
    ∙ (ap (rest (capped n)) (tag_name t ends) ∙ rest_spelled r)))
  where
    ends : TagEnd (drop a s)
    ends = rest_ends r

    rest : ℕ → List ℕ → ℕ
    rest m name = rest_at s (content_by s (element_at s fits d m)) name a

    taken : fits up (table_of s p) (attributes_of s p) ≡ true
    taken =
        ap (λ (m : ℕ). fits up m (attributes_of s p)) (tag_table t ends)
        ∙ (ap (λ (c : Cells). fits up (capped n) c) (tag_attributes t ends) ∙ is_true f)

-- the same where tag and rest stand in the text
element_spelled : (s : List ℕ) (fits : ℕ → ℕ → Cells → Bool) (d up p q n : ℕ) {own : List ℕ} {cells : Cells}
    (space rest : List ℕ) → Attributes own cells → White space
    → Stands s p (open_row ++ (decimal n ++ (own ++ (space ++ rest)))) q → T (fits up (capped n) cells)
    → ((a : ℕ) → Stands s a rest q
    → Rest s (content_by s (element_at s fits d (capped n))) (row_letter ∷ decimal n) a q)
    → element_at s fits (suc d) up p ≡ q
element_spelled s fits d up p q n space rest o w h f law =
    let c = tag_cut s p n space rest q o w h in
    element_by s fits d up c.1 (attributes_distinct o) f (law c.0 c.2)

-- content and the end tag behind it
pub around_content : (s : List ℕ) (inside : ℕ → ℕ) (name inner u : List ℕ) (a q : ℕ) → White u
    → ((b c : ℕ) → Stands s b inner c → is_white (byte_at s c) ≡ false → is_open s c ≡ false → inside b ≡ c)
    → Stands s a (greater ∷ (inner ++ (close ++ (name ++ (u ++ (greater ∷ [])))))) q → Rest s inside name a q
around_content s inside name inner u a q w law h =
    let cut = content_cut s a inner (name ++ (u ++ (greater ∷ []))) q h in
    let e = cut.2.end in
    around (a + 1) cut.0 cut.1 (law (a + 1) cut.0 cut.2 cut.4 cut.5) (omega arith) u w cut.3

-- content that begins with an element
content_spelled : (s : List ℕ) (fits : ℕ → ℕ → Cells → Bool) (d up p q : ℕ) (w l rest : List ℕ) {n : ℕ} {cells : Cells}
    {inside : Forest} → White w → Element d l n cells inside
    → Stands s p (w ++ (l ++ rest)) q
    → ((a b : ℕ) → Stands s a l b → element_at s fits d up a ≡ b)
    → ((a : ℕ) → Stands s a rest q → content_by s (element_at s fits d up) a ≡ q)
    → content_by s (element_at s fits d up) p ≡ q
content_spelled s fits d up p q w l rest h o e law later =
    let cut = element_cut s p q w l rest h o e in
    content_more s (element_at s fits d up) (element_goes_on s fits d up) p cut.2 cut.3
    (law cut.0 cut.1 cut.4) (let g = cut.6 in omega arith)
    ∙ later cut.1 cut.5

-- content, by the law of elements of its depth
content_by_lem : {d : ℕ} {l : List ℕ} {f : Forest} → Content d l f
    → (s : List ℕ) (fits : ℕ → ℕ → Cells → Bool) (up p q : ℕ)
    → ((l : List ℕ) (n : ℕ) (cells : Cells) (inside : Forest) (a b : ℕ) → Element d l n cells inside → Stands s a l b
    → T (fits up (capped n) cells) → TakenIn fits (capped n) inside → element_at s fits d up a ≡ b)
    → Stands s p l q → TakenIn fits up f → is_white (byte_at s q) ≡ false → is_open s q ≡ false
    → content_by s (element_at s fits d up) p ≡ q
content_by_lem (blank {d} w h) s fits up p q law e t x y =
    content_done s (element_at s fits d up) (element_goes_on s fits d up) p (skip_complete e h x) y
content_by_lem (more {d} {l = l} {rest = rest} w h o c) s fits up p q law e t x y =
    content_spelled s fits d up p q w l rest h o e (λ a b i. law _ _ _ _ a b o i t.0 t.1.0)
    (λ a i. content_by_lem c s fits up a q law i t.1.1 x y)

-- an element that is spelled is read
pub element_complete : (s : List ℕ) (fits : ℕ → ℕ → Cells → Bool) (d up : ℕ) (l : List ℕ) (n : ℕ) (cells : Cells)
    (inside : Forest) (p q : ℕ) → Element d l n cells inside → Stands s p l q → T (fits up (capped n) cells)
    → TakenIn fits (capped n) inside → element_at s fits d up p ≡ q
element_complete s fits zero up l n cells inside p q o e f t = elim o [ ]
element_complete s fits (suc d) up l n cells inside p q (empty o w h) e f t =
    element_spelled s fits d up p q n w _ o h e f (λ a i. ended i)
element_complete s fits (suc d) up l n cells inside p q (filled {inner = inner} o w h c u i) e f t =
    element_spelled s fits d up p q n w _ o h e f
    (λ a j. around_content s _ _ inner u a q i
    (λ b k m x y. content_by_lem c s fits (capped n) b k (element_complete s fits d (capped n)) m t x y) j)

-- and so is content, where neither white space nor an open tag follows
pub content_complete : (s : List ℕ) (fits : ℕ → ℕ → Cells → Bool) {d : ℕ} (up : ℕ) {l : List ℕ} {f : Forest} (p q : ℕ)
    → Content d l f → Stands s p l q → TakenIn fits up f → is_white (byte_at s q) ≡ false → is_open s q ≡ false
    → content_by s (element_at s fits d up) p ≡ q
content_complete s fits {d} up p q c e t x y =
    content_by_lem c s fits up p q (element_complete s fits d up) e t x y
