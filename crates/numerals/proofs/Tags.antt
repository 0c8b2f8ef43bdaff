-- The tags that are read off a text of the form are those of its rows, in text order.
use Prim.Native.Nat.{ℕ}
use mathlib.Core.Path.{◌≡◌, refl, sym, ap, ap₂, ◌∙◌}
use mathlib.Core.Bool.{Bool, false, ◌&&◌}
use mathlib.Core.List.{List, [], ◌∷◌, ◌++◌, append_assoc, append-nil}
use lib.Dec.{eqb}
use lib.ListN.{drop, get_or}
use Rattle.columns.specs.Test.{pick}
use Rattle.model.specs.Text.{decimal}
use Rattle.model.specs.Forest.{Cells, Forest, none, tree}
use Rattle.model.specs.Xml.{White, is_quote, open_row, close, row_letter, catalogue_name, less, slash}
use Rattle.model.specs.Xml.{greater, equals, Attribute, attribute, Attributes, Element, Content, blank, more, Document}
use Rattle.model.specs.Form.{number_in, cells_in}
use Rattle.model.specs.Convert.{Tag, tags_in}
use Rattle.readers.specs.Stands.{Loose}
use Rattle.numerals.specs.Tagged.{TagEnd, by_greater, by_slash, Without}
use Rattle.standing.specs.Tags.{tags_of, SmallCells, Small}
use Rattle.numerals.proofs.Decimal.{decimal_digits}
use Rattle.numerals.proofs.Words.{unlike, white_without, digits_without}
use Rattle.numerals.proofs.Tagged.{cells_loose, number_loose, attributes_loose, loose_small}

-- white space, numbers and attributes are without `<`
less_append : (w v : List ℕ) → Without less w → Without less v → Without less (w ++ v)
less_append [] v h k = k
less_append (x ∷ w) v h k = (h.0, less_append w v h.1 k)

white_less : (w : List ℕ) → White w → Without less w
white_less w h = white_without less tt w h

number_less : (n : ℕ) → Without less (decimal n)
number_less n = digits_without less tt (decimal n) (decimal_digits n)

attribute_less : {a : List ℕ} {column value : ℕ} → Attribute a column value → Without less a
attribute_less (attribute x w u v q column value hx hw hu hv hq small) =
    less_append (x ∷ w) _ (white_less (x ∷ w) (hx, hw)) (refl, less_append (decimal column) _ (number_less column) rest)
  where
    quote : eqb q less ≡ false
    quote = unlike is_quote q less hq tt

    quoted : Without less (q ∷ (decimal value ++ (q ∷ [])))
    quoted = (quote, less_append (decimal value) _ (number_less value) (quote, tt))

    rest : Without less (u ++ (equals ∷ (v ++ (q ∷ (decimal value ++ (q ∷ []))))))
    rest = less_append u _ (white_less u hu) (refl, less_append v _ (white_less v hv) quoted)

loose_less : {l : List ℕ} {cells : Cells} → Loose l cells → Without less l
loose_less Loose.no_more = tt
loose_less (Loose.one_more {a} {l} at rest) = less_append a l (attribute_less at) (loose_less rest)

-- without it no tag is read
tags_past : (w rest : List ℕ) → Without less w → tags_in (w ++ rest) ≡ tags_in rest
unfolding tags_in
tags_past [] rest h = refl
tags_past (x ∷ w) rest h =
    let l = w ++ rest in
    let tags : List Tag = (number_in (drop 1 l), cells_in (drop 1 l)) ∷ tags_in l in
    ap (λ (t : Bool). pick (t && eqb (get_or l 0 0) row_letter) tags (tags_in l)) h.0 ∙ tags_past w rest h.1

white_past : (w rest : List ℕ) → White w → tags_in (w ++ rest) ≡ tags_in rest
white_past w rest h = tags_past w rest (white_less w h)

white_none : (w : List ℕ) → White w → tags_in w ≡ []
unfolding tags_in
white_none w h = ap tags_in (sym (append-nil w)) ∙ white_past w [] h

-- a tag up to its end is one tag
tag_read : (table : ℕ) {l : List ℕ} {cells : Cells} → Attributes l cells → (w rest : List ℕ) → White w → TagEnd rest
    → tags_in (open_row ++ (decimal table ++ (l ++ (w ++ rest)))) ≡ (table, cells) ∷ tags_in rest
unfolding tags_in
tag_read table {l} {cells} at w rest h e =
    let a = attributes_loose at in
    ap₂ (λ (t : Tag) (ts : List Tag). t ∷ ts)
    (ap₂ (λ (n : ℕ) (cs : Cells). (n, cs)) (number_loose table l cells a w rest h e)
    (cells_loose table l cells a w rest h e))
    (tags_past (decimal table) _ (number_less table) ∙ (tags_past l _ (loose_less a) ∙ white_past w rest h))

-- an end tag is none
end_read : (name u rest : List ℕ) → Without less name → White u
    → tags_in (close ++ (name ++ (u ++ (greater ∷ rest)))) ≡ tags_in rest
unfolding tags_in
end_read name u rest n h = tags_past name _ n ∙ white_past u _ h

-- what is read before anything: of an element its tag and those in it, of content those of its elements
abbrev ReadsRow : List ℕ → ℕ → Cells → Forest → Type 0
ReadsRow l table cells inside =
    (rest : List ℕ) → tags_in (l ++ rest) ≡ (table, cells) ∷ (tags_of inside ++ tags_in rest)

abbrev Reads : List ℕ → Forest → Type 0
Reads l f = (rest : List ℕ) → tags_in (l ++ rest) ≡ tags_of f ++ tags_in rest

empty_read : (table : ℕ) {l : List ℕ} {cells : Cells} → Attributes l cells → (w : List ℕ) → White w
    → ReadsRow (open_row ++ (decimal table ++ (l ++ (w ++ (slash ∷ greater ∷ []))))) table cells none
unfolding tags_in tags_of
empty_read table {l} at w h rest =
    ap tags_in parts ∙ tag_read table at w (slash ∷ greater ∷ rest) h (by_slash rest)
  where
    parts : open_row ++ (decimal table ++ (l ++ (w ++ (slash ∷ greater ∷ [])))) ++ rest
        ≡ open_row ++ (decimal table ++ (l ++ (w ++ (slash ∷ greater ∷ rest))))
    parts = simp append_assoc

filled_read : (table : ℕ) {l : List ℕ} (inner : List ℕ) {cells : Cells} (inside : Forest) → Attributes l cells
    → (w : List ℕ) → White w → Reads inner inside → (u : List ℕ) → White u
    → ReadsRow
    (open_row ++ (decimal table ++ (l ++ (w ++ (greater ∷ (inner
    ++ (close ++ ((row_letter ∷ decimal table) ++ (u ++ (greater ∷ []))))))))))
    table cells inside
unfolding tags_in
filled_read table {l} inner {cells} inside at w h ih u k rest =
    ap tags_in parts
    ∙ (tag_read table at w (greater ∷ (inner ++ ended)) h (by_greater (inner ++ ended))
    ∙ ap (λ (ts : List Tag). (table, cells) ∷ ts)
    (ih ended
    ∙ ap (λ (ts : List Tag). tags_of inside ++ ts)
    (end_read (row_letter ∷ decimal table) u rest (refl, number_less table) k)))
  where
    ended : List ℕ
    ended = close ++ ((row_letter ∷ decimal table) ++ (u ++ (greater ∷ rest)))

    parts : open_row ++ (decimal table ++ (l ++ (w ++ (greater ∷ (inner
        ++ (close ++ ((row_letter ∷ decimal table) ++ (u ++ (greater ∷ []))))))))) ++ rest
        ≡ open_row ++ (decimal table ++ (l ++ (w ++ (greater ∷ (inner ++ ended)))))
    parts = simp append_assoc

more_read : (table : ℕ) (l behind : List ℕ) (cells : Cells) (inside after : Forest) (w : List ℕ) → White w
    → ReadsRow l table cells inside → Reads behind after
    → Reads (w ++ (l ++ behind)) (tree table cells inside after)
unfolding tags_of
more_read table l behind cells inside after w h e c rest =
    ap tags_in parts
    ∙ (white_past w (l ++ (behind ++ rest)) h
    ∙ (e (behind ++ rest)
    ∙ ap (λ (ts : List Tag). (table, cells) ∷ ts)
    (ap (λ (ts : List Tag). tags_of inside ++ ts) (c rest)
    ∙ sym (append_assoc (tags_of inside) (tags_of after) (tags_in rest)))))
  where
    parts : w ++ (l ++ behind) ++ rest ≡ w ++ (l ++ (behind ++ rest))
    parts = simp append_assoc

content_read : {d : ℕ} {l : List ℕ} {f : Forest} → Content d l f → Reads l f
unfolding tags_of
content_read c =
    elim c as (λ d l table cells inside e. ReadsRow l table cells inside) (λ d l f c. Reads l f) [
      | Element.empty {table} at w h ↦ empty_read table at w h
      | Element.filled {table} {inner} {inside} at w h (c → ih) u k ↦ filled_read table inner inside at w h ih u k
      | blank w h ↦ (λ rest. white_past w rest h)
      | more {table} {l} {rest} {cells} {inside} {after} w h (e → one) (c → others) ↦
          more_read table l rest cells inside after w h one others
    ]

pub tags_document : {s : List ℕ} {f : Forest} → Document s f → tags_in s ≡ tags_of f
unfolding tags_in tags_of
tags_document (Document.empty w u v hw hu hv) =
    white_past w _ hw ∙ (white_past u _ hu ∙ white_none v hv)
tags_document (Document.filled {inner} {rows} w u v x hw hu hv hx c) =
    white_past w _ hw
    ∙ (white_past u _ hu
    ∙ (content_read c (close ++ (catalogue_name ++ (v ++ (greater ∷ x))))
    ∙ (ap (λ (ts : List Tag). tags_of rows ++ ts) (end_read catalogue_name v x name hv ∙ white_none x hx)
    ∙ append-nil (tags_of rows))))
  where
    name : Without less catalogue_name
    name = (refl, (refl, (refl, (refl, (refl, (refl, (refl, (refl, (refl, tt)))))))))

-- no value in a text of the form is the code of a missing cell
content_small : {d : ℕ} {l : List ℕ} {f : Forest} → Content d l f → Small f
content_small c =
    elim c as (λ d l table cells inside e. SmallCells cells × Small inside) (λ d l f c. Small f) [
      | Element.empty at w h ↦ (loose_small (attributes_loose at), tt)
      | Element.filled at w h (c → ih) u k ↦ (loose_small (attributes_loose at), ih)
      | blank w h ↦ tt
      | more w h (e → one) (c → others) ↦ (one.0, (one.1, others))
    ]

pub document_small : {s : List ℕ} {f : Forest} → Document s f → Small f
document_small (Document.empty w u v hw hu hv) = tt
document_small (Document.filled w u v x hw hu hv hx c) = content_small c
