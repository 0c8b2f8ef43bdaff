-- A tag gives its attributes: what is read between its name and its end are the cells that stand there.
use Prim.Native.Nat.{ℕ, ◌<◌}
use mathlib.Core.Path.{◌≡◌, refl, ap, ap₂, ◌∙◌}
use mathlib.Core.Bool.{Bool, true, false, ◌||◌, ◌&&◌}
use mathlib.Core.List.{List, [], ◌∷◌, ◌++◌, append_assoc}
use lib.Dec.{T, eqb}
use lib.ListN.{get_or}
use Rattle.columns.specs.Test.{pick}
use Rattle.columns.proofs.Test.{if_lt_yes}
use Rattle.model.specs.Bounds.{missing}
use Rattle.model.specs.Text.{decimal}
use Rattle.model.specs.Forest.{Cells}
use Rattle.model.specs.Xml.{White, is_quote, is_fresh, greater, column_letter, equals, Attribute, attribute, Attributes}
use Rattle.model.specs.Form.{is_digit, number_in, capped, quoted_in, cells_in, is_distinct}
use Rattle.model.proofs.Truth.{is_true, true_is, and_is}
use Rattle.readers.specs.Stands.{Loose}
use Rattle.numerals.specs.Tagged.{TagEnd, by_greater, by_slash, Without}
use Rattle.standing.specs.Tags.{SmallCells}
use Rattle.numerals.proofs.Decimal.{decimal_digits, number_decimal}
use Rattle.numerals.proofs.Words.{unlike, white_without, digits_without, white_no_digit, quote_no_digit}
use Rattle.numerals.proofs.Words.{white_ahead}

-- without `>` and `c` no attribute is read
cells_on : (x : ℕ) (l : List ℕ) → eqb x greater ≡ false → eqb x column_letter ≡ false → cells_in (x ∷ l) ≡ cells_in l
unfolding cells_in
cells_on x l g c =
    let cells : Cells = (number_in l, capped (quoted_in l)) ∷ cells_in l in
    ap (λ (t : Bool). pick t [] (pick (eqb x column_letter) cells (cells_in l))) g
    ∙ ap (λ (t : Bool). pick t cells (cells_in l)) c

cells_past : (w rest : List ℕ) → Without greater w → Without column_letter w → cells_in (w ++ rest) ≡ cells_in rest
cells_past [] rest g c = refl
cells_past (x ∷ w) rest g c = cells_on x (w ++ rest) g.0 c.0 ∙ cells_past w rest g.1 c.1

white_past : (w rest : List ℕ) → White w → cells_in (w ++ rest) ≡ cells_in rest
white_past w rest h = cells_past w rest (white_without greater tt w h) (white_without column_letter tt w h)

number_past : (n : ℕ) (rest : List ℕ) → cells_in (decimal n ++ rest) ≡ cells_in rest
number_past n rest =
    let h = decimal_digits n in
    cells_past (decimal n) rest (digits_without greater tt (decimal n) h)
    (digits_without column_letter tt (decimal n) h)

-- without quotes no value is read
quoted_past : (w rest : List ℕ) → Without 34 w → Without 39 w → quoted_in (w ++ rest) ≡ quoted_in rest
unfolding quoted_in
quoted_past [] rest f g = refl
quoted_past (x ∷ w) rest f g =
    ap₂ (λ (t u : Bool). pick (t || u) (number_in (w ++ rest)) (quoted_in (w ++ rest))) f.0 g.0
    ∙ quoted_past w rest f.1 g.1

-- the value of an attribute, from behind its `c` on
value_read : (column value q : ℕ) (u v tail : List ℕ) → White u → White v → T (is_quote q)
    → quoted_in (decimal column ++ (u ++ (equals ∷ (v ++ (q ∷ (decimal value ++ (q ∷ tail))))))) ≡ value
unfolding quoted_in
value_read column value q u v tail hu hv hq =
    let d = decimal_digits column in
    quoted_past (decimal column) _ (digits_without 34 tt (decimal column) d) (digits_without 39 tt (decimal column) d)
    ∙ (quoted_past u _ (white_without 34 tt u hu) (white_without 39 tt u hu)
    ∙ (quoted_past v _ (white_without 34 tt v hv) (white_without 39 tt v hv)
    ∙ (ap (λ (t : Bool). pick t (number_in (decimal value ++ (q ∷ tail))) (quoted_in (decimal value ++ (q ∷ tail))))
    (is_true {b = is_quote q} hq) ∙ number_decimal value (q ∷ tail) (quote_no_digit q hq))))

-- a `c` begins one
letter_read : (column value : ℕ) (l : List ℕ) → number_in l ≡ column → quoted_in l ≡ value → value < missing
    → cells_in (column_letter ∷ l) ≡ (column, value) ∷ cells_in l
unfolding cells_in capped
letter_read column value l n v small =
    ap₂ (λ (k y : ℕ). (k, y) ∷ cells_in l) n (ap capped v ∙ if_lt_yes missing small)

-- an attribute before anything: the white space before its `c`, and what is behind it
attribute_read : {a : List ℕ} {column value : ℕ} → Attribute a column value → (tail : List ℕ)
    → cells_in (a ++ tail) ≡ (column, value) ∷ cells_in tail
attribute_read (attribute x w u v q column value hx hw hu hv hq small) tail =
    ap cells_in parts
    ∙ (white_past (x ∷ w) (column_letter ∷ behind) (hx, hw)
    ∙ (letter_read column value behind (number_decimal column _ (white_ahead u _ hu refl))
    (value_read column value q u v tail hu hv hq) small
    ∙ ap (λ (cs : Cells). (column, value) ∷ cs) past))
  where
    behind : List ℕ
    behind = decimal column ++ (u ++ (equals ∷ (v ++ (q ∷ (decimal value ++ (q ∷ tail))))))

    parts : x ∷ (w ++ (column_letter ∷ (decimal column ++ (u ++ (equals ∷ (v
        ++ (q ∷ (decimal value ++ (q ∷ []))))))))) ++ tail ≡ x ∷ (w ++ (column_letter ∷ behind))
    parts = simp append_assoc

    quote_past : (l : List ℕ) → cells_in (q ∷ l) ≡ cells_in l
    quote_past l = cells_on q l (unlike is_quote q greater hq tt) (unlike is_quote q column_letter hq tt)

    past : cells_in behind ≡ cells_in tail
    past =
        number_past column _
        ∙ (white_past u _ hu
        ∙ (cells_on equals _ refl refl
        ∙ (white_past v _ hv ∙ (quote_past _ ∙ (number_past value _ ∙ quote_past tail)))))

-- what ends a tag has no attribute
no_cells : {rest : List ℕ} → TagEnd rest → cells_in rest ≡ []
unfolding cells_in
no_cells (by_greater r) = refl
no_cells (by_slash r) = refl

-- the attributes of a tag, behind its name
behind_name : {l : List ℕ} {cells : Cells} → Loose l cells → (w rest : List ℕ) → White w → TagEnd rest
    → cells_in (l ++ (w ++ rest)) ≡ cells
behind_name Loose.no_more w rest h e = white_past w rest h ∙ no_cells e
behind_name (Loose.one_more {a} {l} {column} {value} at more) w rest h e =
    ap cells_in (append_assoc a l (w ++ rest))
    ∙ (attribute_read at (l ++ (w ++ rest))
    ∙ ap (λ (cs : Cells). (column, value) ∷ cs) (behind_name more w rest h e))

pub cells_loose : (n : ℕ) (l : List ℕ) (cells : Cells) → Loose l cells → (w rest : List ℕ) → White w → TagEnd rest
    → cells_in (decimal n ++ (l ++ (w ++ rest))) ≡ cells
cells_loose n l cells a w rest h e = number_past n (l ++ (w ++ rest)) ∙ behind_name a w rest h e

-- and its table: behind the number there is no digit
no_digit_ahead : {l : List ℕ} {cells : Cells} → Loose l cells → (w rest : List ℕ) → White w → TagEnd rest
    → is_digit (get_or (l ++ (w ++ rest)) 0 0) ≡ false
no_digit_ahead Loose.no_more w rest h (by_greater r) = white_ahead w rest h refl
no_digit_ahead Loose.no_more w rest h (by_slash r) = white_ahead w rest h refl
no_digit_ahead (Loose.one_more (attribute x _ _ _ _ _ _ hx _ _ _ _ _) more) w rest h e = white_no_digit x hx

pub number_loose : (n : ℕ) (l : List ℕ) (cells : Cells) → Loose l cells → (w rest : List ℕ) → White w → TagEnd rest
    → number_in (decimal n ++ (l ++ (w ++ rest))) ≡ n
number_loose n l cells a w rest h e = number_decimal n (l ++ (w ++ rest)) (no_digit_ahead a w rest h e)

-- attributes of which none is there twice
pub loose_distinct : {l : List ℕ} {cells : Cells} → Loose l cells → is_distinct cells ≡ true → Attributes l cells
unfolding is_distinct
loose_distinct Loose.no_more e = Attributes.no_more
loose_distinct (Loose.one_more {column} {cells} at more) e =
    let h = (and_is (is_fresh column cells) (is_distinct cells)).0 (true_is e) in
    Attributes.one_more at (loose_distinct more (is_true h.1)) h.0

pub attributes_loose : {l : List ℕ} {cells : Cells} → Attributes l cells → Loose l cells
attributes_loose Attributes.no_more = Loose.no_more
attributes_loose (Attributes.one_more at more fresh) = Loose.one_more at (attributes_loose more)

pub attributes_distinct : {l : List ℕ} {cells : Cells} → Attributes l cells → is_distinct cells ≡ true
unfolding is_distinct
attributes_distinct Attributes.no_more = refl
attributes_distinct (Attributes.one_more {column} {cells} at more fresh) =
    ap₂ ◌&&◌ (is_true {b = is_fresh column cells} fresh) (attributes_distinct more)

-- their values are no code of a missing cell
pub loose_small : {l : List ℕ} {cells : Cells} → Loose l cells → SmallCells cells
loose_small Loose.no_more = tt
loose_small (Loose.one_more (attribute x w u v q column value hx hw hu hv hq small) more) = (small, loose_small more)
