-- A supplier's text, read (document 02, f): each reader takes a position and gives the position behind what it reads
-- there, or 0 where that does not stand there. That these readers take exactly the texts of specs/Xml is proved, not
-- believed: `form_exactly`.
use Rattle.std.specs.Prelude.{ℕ, zero, suc, ◌+◌, ◌-◌, ◌*◌, Bool, true, false, ◌&&◌, not, List, [], ◌∷◌, eqb, leb}
use Rattle.std.specs.Prelude.{length, take, drop}
use Rattle.columns.specs.Test.{pick, if_eq, if_lt}
use Rattle.model.specs.Bounds.{table_bound, missing, no_parent}
use Rattle.model.specs.Bytes.{byte_at}
use Rattle.model.specs.First.{first_from}
use Rattle.model.specs.Forest.{Cells}
use Rattle.model.specs.Xml.{is_white, is_quote, is_fresh, open_row, open_catalogue, close, catalogue_name}
use Rattle.model.specs.Xml.{less, slash, greater, column_letter, equals}

abbrev pub is_digit : ℕ → Bool
is_digit x = leb 48 x && leb x 57

-- the number of the digits that a text begins with
unfoldable pub number_from : ℕ → List ℕ → ℕ
number_from n [] = n
number_from n (x ∷ l) = let y = number_from (10 * n + (x - 48)) l in pick (is_digit x) y n

abbrev pub number_in : List ℕ → ℕ
number_in l = number_from 0 l

-- a number that no table, column or cell has is as good as any other such
unfoldable pub capped : ℕ → ℕ
capped n = if_lt n missing n missing

-- the number behind the first quote of a text
unfoldable pub quoted_in : List ℕ → ℕ
quoted_in [] = 0
quoted_in (x ∷ l) = let y = quoted_in l in pick (is_quote x) (number_in l) y

-- the attributes up to the end of a tag: each `c` begins one
unfoldable pub cells_in : List ℕ → Cells
cells_in [] = []
cells_in (x ∷ l) =
    let y = pick (eqb x column_letter) ((number_in l, capped (quoted_in l)) ∷ cells_in l) (cells_in l) in
    pick (eqb x greater) [] y

-- none of them twice
unfoldable pub is_distinct : Cells → Bool
is_distinct [] = true
is_distinct (c ∷ cs) = is_fresh c.0 cs && is_distinct cs

-- what is read next, where something was read before
unfoldable pub next : ℕ → (ℕ → ℕ) → ℕ
next r f = let y = f r in if_eq r 0 0 y

-- again and again while there is more, n times at most
unfoldable pub many_in : ℕ → (ℕ → Bool) → (ℕ → ℕ) → ℕ → ℕ
many_in zero more f p = p
many_in (suc n) more f p = let y = next (f p) (many_in n more f) in pick (more p) y p

abbrev pub many : List ℕ → (ℕ → Bool) → (ℕ → ℕ) → ℕ → ℕ
many s more f p = many_in (length s) more f p

-- white space, and the digits at a position
unfoldable pub skip : List ℕ → ℕ → ℕ
skip s p = first_from (λ i. not (is_white (byte_at s i))) (length s - p) p

unfoldable pub digits_end : List ℕ → ℕ → ℕ
digits_end s p = first_from (λ i. not (is_digit (byte_at s i))) (length s - p) p

-- a byte, and a word
unfoldable pub expect : List ℕ → ℕ → ℕ → ℕ
expect s x p = if_lt p (length s) (if_eq (byte_at s p) x (p + 1) 0) 0

unfoldable pub word_at : List ℕ → List ℕ → ℕ → ℕ
word_at s [] p = p
word_at s (x ∷ w) p = next (expect s x p) (word_at s w)

-- a numeral: some digits, and no 0 before others
unfoldable pub numeral_at : List ℕ → ℕ → ℕ
numeral_at s p =
    if_eq (digits_end s p) p 0 (if_eq (byte_at s p) 48 (if_eq (digits_end s p) (p + 1) (p + 1) 0) (digits_end s p))

-- a value in quotes
unfoldable pub quoted_at : List ℕ → ℕ → ℕ
quoted_at s p =
    pick (is_quote (byte_at s p))
    (next (numeral_at s (p + 1)) (λ q. if_lt (number_in (drop (p + 1) s)) missing (expect s (byte_at s p) q) 0)) 0

-- an attribute behind white space, and whether one follows
unfoldable pub attribute_at : List ℕ → ℕ → ℕ
attribute_at s p =
    next (expect s column_letter (skip s p))
    (λ a. next (numeral_at s a) (λ b. next (expect s equals (skip s b)) (λ c. quoted_at s (skip s c))))

unfoldable pub is_attribute : List ℕ → ℕ → Bool
is_attribute s p = not (eqb (skip s p) p) && eqb (byte_at s (skip s p)) column_letter

-- a tag, up to its `>` or `/>`
unfoldable pub tag_at : List ℕ → ℕ → ℕ
tag_at s p =
    next (word_at s open_row p)
    (λ a. next (numeral_at s a)
    (λ b. next (many s (is_attribute s) (attribute_at s) b)
    (λ c. pick (is_distinct (cells_in (drop a s))) (skip s c) 0)))

-- of a tag at p: the table, the attributes, and the name with its letter
unfoldable pub table_of : List ℕ → ℕ → ℕ
table_of s p = capped (number_in (drop (p + 2) s))

unfoldable pub attributes_of : List ℕ → ℕ → Cells
attributes_of s p = cells_in (drop (p + 2) s)

unfoldable pub name_of : List ℕ → ℕ → List ℕ
name_of s p = take (digits_end s (p + 2) - (p + 1)) (drop (p + 1) s)

-- an end tag of a name
unfoldable pub end_at : List ℕ → List ℕ → ℕ → ℕ
end_at s name p = next (word_at s close p) (λ a. next (word_at s name a) (λ b. expect s greater (skip s b)))

-- the rest of an element from the end of its tag on: `/>`, or `>`, what is inside, and the end tag
unfoldable pub rest_at : List ℕ → (ℕ → ℕ) → List ℕ → ℕ → ℕ
rest_at s inside name p =
    if_eq (byte_at s p) slash (expect s greater (p + 1))
    (next (expect s greater p) (λ a. next (inside a) (end_at s name)))

-- content, by a reader of elements: it goes on while a tag follows that is no end tag
unfoldable pub is_open : List ℕ → ℕ → Bool
is_open s p = eqb (byte_at s p) less && not (eqb (byte_at s (p + 1)) slash)

unfoldable pub content_by : List ℕ → (ℕ → ℕ) → ℕ → ℕ
content_by s element p = many s (is_open s) (λ q. next (element q) (skip s)) (skip s p)

-- an element, at most d deep, that stands in a row of table `up`; `fits` says of each tag whether it is one to be taken
unfoldable pub element_at : List ℕ → (ℕ → ℕ → Cells → Bool) → ℕ → ℕ → ℕ → ℕ
element_at s fits zero up p = 0
element_at s fits (suc d) up p =
    next (tag_at s p)
    (λ a. pick (fits up (table_of s p) (attributes_of s p))
    (rest_at s (content_by s (element_at s fits d (table_of s p))) (name_of s p) a) 0)

-- the whole text: 1 if it is read to its end
unfoldable pub document_at : List ℕ → (ℕ → ℕ → Cells → Bool) → ℕ
document_at s fits =
    next (word_at s open_catalogue (skip s 0))
    (λ a. next (rest_at s (content_by s (element_at s fits table_bound no_parent)) catalogue_name (skip s a))
    (λ b. if_eq (skip s b) (length s) 1 0))
