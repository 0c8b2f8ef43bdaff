-- A tag: where the reader of tags has read something, a tag is spelled there; and where one is spelled, up to a `>` or
-- `/>`, that is what is read, with its table, its attributes and its name.
use Prim.Native.Nat.{ℕ, ◌+◌, ◌-◌}
use mathlib.Core.Path.{◌≡◌, refl, sym, ap, subst, ◌∙◌}
use mathlib.Core.Bool.{Bool, true, false, ◌&&◌, not, and-false}
use mathlib.Core.List.{List, [], ◌∷◌, ◌++◌, append_assoc}
use native.Mathlib.Omega.{arith}
use lib.Dec.{eqb}
use lib.ListN.{length, take, drop, get_or}
use Rattle.columns.specs.Test.{pick}
use Rattle.model.specs.Bytes.{byte_at}
use Rattle.model.specs.Text.{decimal}
use Rattle.model.specs.Forest.{Cells}
use Rattle.model.specs.Xml.{is_white, White, Attributes, attribute, open_row, row_letter, column_letter, greater, slash}
use Rattle.model.specs.Form.{is_digit, number_in, capped, cells_in, is_distinct, many, skip, numeral_at}
use Rattle.model.specs.Form.{word_at, attribute_at}
use Rattle.model.specs.Form.{is_attribute, tag_at, table_of, attributes_of, name_of}
use Rattle.readers.specs.Stands.{Stands, Loose, no_more, one_more}
use Rattle.readers.proofs.Next.{next_read}
use Rattle.numerals.specs.Tagged.{TagEnd, by_greater, by_slash}
use Rattle.numerals.proofs.Words.{white_no_digit, white_ahead}
use Rattle.numerals.proofs.Tagged.{cells_loose, attributes_loose}
use Rattle.spelling.proofs.Stands.{stands_cut, stands_join, stands_rest, stands_word, byte_behind}
use Rattle.spelling.proofs.Small.{next_is, skip_sound, skip_complete, word_sound, word_complete, numeral_sound}
use Rattle.spelling.proofs.Small.{numeral_complete, number_stands}
use Rattle.spelling.proofs.Attributes.{attributes_sound, attributes_complete}

-- a byte that ends a tag is of no kind that `>` and `/` are not of
tag_end_byte : (kind : ℕ → Bool) → kind greater ≡ false → kind slash ≡ false → {r : List ℕ} → TagEnd r
    → kind (get_or r 0 0) ≡ false
tag_end_byte kind g l (by_greater r) = g
tag_end_byte kind g l (by_slash r) = l

pub tag_ends_at : (kind : ℕ → Bool) → kind greater ≡ false → kind slash ≡ false → (s : List ℕ) (a : ℕ)
    → TagEnd (drop a s) → kind (byte_at s a) ≡ false
tag_ends_at kind g l s a e = ap kind (sym (byte_behind s a)) ∙ tag_end_byte kind g l e

-- behind a tag's name comes no digit
own_no_digit : {l : List ℕ} {cells : Cells} → Loose l cells → (r : List ℕ) → is_digit (get_or r 0 0) ≡ false
    → is_digit (get_or (l ++ r) 0 0) ≡ false
own_no_digit no_more r h = h
own_no_digit (one_more (attribute x u v y q column value t h₁ h₂ h₃ h₄ h₅) o) r h = white_no_digit x t

-- A tag of table n with these attributes is spelled from p to a, where its `>` or `/>` is due.
pub record Tag (s : List ℕ) (p a n : ℕ) (cells : Cells) : Type 0 where
  pub own : List ℕ
  pub space : List ℕ
  pub loose : Loose own cells
  pub white : White space
  pub stands : Stands s p (open_row ++ (decimal n ++ (own ++ space))) a

-- a tag and what stands behind it, in one and cut
tag_assoc : (n : ℕ) (own space rest : List ℕ)
    → (open_row ++ (decimal n ++ (own ++ space))) ++ rest ≡ open_row ++ (decimal n ++ (own ++ (space ++ rest)))
tag_assoc n own space rest = simp append_assoc

pub tag_join : {s : List ℕ} {p a n : ℕ} {cells : Cells} (t : Tag s p a n cells) {rest : List ℕ} {q : ℕ}
    → Stands s a rest q → Stands s p (open_row ++ (decimal n ++ (t.own ++ (t.space ++ rest)))) q
tag_join {s} {p} {n} t {rest} {q} h =
    subst (λ (l : List ℕ). Stands s p l q) (tag_assoc n t.own t.space rest) (stands_join t.stands h)

pub tag_cut : (s : List ℕ) (p n : ℕ) {own : List ℕ} {cells : Cells} (space rest : List ℕ) (q : ℕ)
    → Attributes own cells → White space → Stands s p (open_row ++ (decimal n ++ (own ++ (space ++ rest)))) q
    → (a : ℕ) × Tag s p a n cells × Stands s a rest q
tag_cut s p n {own} space rest q o w h =
    let word = open_row ++ (decimal n ++ (own ++ space)) in
    let c =
    stands_cut s p word rest q (subst (λ (l : List ℕ). Stands s p l q) (sym (tag_assoc n own space rest)) h) in (
      p + length word,
      record { own = own; space = space; loose = attributes_loose o; white = w; stands = c.0 },
      c.1,
    )

-- a test passed where something is read behind it
pub pick_read : (t : Bool) (r : ℕ) {q : ℕ} → pick t r 0 ≡ q → (q ≡ 0 → ⊥) → (t ≡ true) × (r ≡ q)
pick_read true r e n = (refl, e)
pick_read false r e n = absurd (n (sym e))

-- what is read is spelled, and no attribute is there twice
pub tag_read : (s : List ℕ) (p : ℕ) {a : ℕ} → tag_at s p ≡ a → (a ≡ 0 → ⊥)
    → (n : ℕ) × (cells : Cells) × Tag s p a n cells × (is_distinct (attributes_of s p) ≡ true)
unfolding tag_at attributes_of
tag_read s p {a} e n =
    let b = numeral_at s (word_at s open_row p) in
    let c = many s (is_attribute s) (attribute_at s) b in
    let first = next_read _ _ e n in
    let second = next_read _ _ first.1 n in
    let third = next_read _ _ second.1 n in
    let last = pick_read _ _ third.1 n in
    let word = word_sound {w = 116 ∷ []} refl first.0 in
    let number = numeral_sound {s = s} {p = word_at s open_row p} refl second.0 in
    let own = attributes_sound {p = b} number.1.within second.0 refl third.0 in
    let space = skip_sound s c own.3.within in
    let ends = subst (λ (q : ℕ). Stands s c space.0 q) last.1 space.2 in (
      number.0,
      own.1,
      record {
        own = own.0;
        space = space.0;
        loose = own.2;
        white = space.1;
        stands = stands_join word (stands_join number.1 (stands_join own.3 ends));
      },
      subst (λ (q : ℕ). is_distinct (cells_in (drop q s)) ≡ true) word.end last.0,
    )

module _ {s : List ℕ} {p a n : ℕ} {cells : Cells} (t : Tag s p a n cells) (e : TagEnd (drop a s)) where
  -- where the numeral and the attributes end
  abbrev b : ℕ
  b = p + 2 + length (decimal n)

  abbrev c : ℕ
  c = b + length t.own

  -- the tag, cut: its word, its numeral, its attributes and its white space
  word_cut : Stands s p open_row (p + 2) × Stands s (p + 2) (decimal n ++ (t.own ++ t.space)) a
  word_cut = stands_cut s p open_row (decimal n ++ (t.own ++ t.space)) a t.stands

  name_cut : Stands s (p + 2) (decimal n) b × Stands s b (t.own ++ t.space) a
  name_cut = stands_cut s (p + 2) (decimal n) (t.own ++ t.space) a word_cut.1

  own_cut : Stands s b t.own c × Stands s c t.space a
  own_cut = stands_cut s b t.own t.space a name_cut.1

  -- what is left of the text from the name's numeral on, and behind it
  numeral_on : drop (p + 2) s ≡ decimal n ++ (t.own ++ (t.space ++ drop a s))
  numeral_on = word_cut.1.text ∙ simp append_assoc

  own_on : drop b s ≡ t.own ++ (t.space ++ drop a s)
  own_on = name_cut.1.text ∙ append_assoc t.own t.space (drop a s)

  no_digit : is_digit (byte_at s b) ≡ false
  no_digit =
      ap is_digit (sym (byte_behind s b))
      ∙ (ap (λ (l : List ℕ). is_digit (get_or l 0 0)) own_on
      ∙ own_no_digit t.loose (t.space ++ drop a s)
      (white_ahead t.space (drop a s) t.white (tag_end_byte is_digit refl refl e)))

  -- the number, the table that it stands for, the attributes and the name
  pub tag_number : number_in (drop (p + 2) s) ≡ n
  tag_number = number_stands n name_cut.0 no_digit

  pub tag_table : table_of s p ≡ capped n
  unfolding table_of
  tag_table = ap capped tag_number

  pub tag_attributes : attributes_of s p ≡ cells
  unfolding attributes_of
  tag_attributes =
      ap cells_in numeral_on
      ∙ cells_loose n t.own cells t.loose t.space (drop a s) t.white e

  pub tag_name : name_of s p ≡ row_letter ∷ decimal n
  unfolding name_of
  tag_name =
      ap (λ (q : ℕ). take (q - (p + 1)) (drop (p + 1) s)) (numeral_complete n name_cut.0 no_digit).1
      ∙ stands_word (stands_join (stands_rest word_cut.0) name_cut.0)

  -- behind the attributes there is white space alone, and no attribute
  skipped : skip s c ≡ a
  skipped = skip_complete own_cut.1 t.white (tag_ends_at is_white refl refl s a e)

  none_follows : is_attribute s c ≡ false
  unfolding is_attribute
  none_follows =
      ap (λ (q : ℕ). not (eqb q c) && eqb (byte_at s q) column_letter) skipped
      ∙ (ap (λ (y : Bool). not (eqb a c) && y) (tag_ends_at (λ x. eqb x column_letter) refl refl s a e)
      ∙ and-false (not (eqb a c)))

  -- what is spelled is read
  pub tag_spelled : is_distinct cells ≡ true → tag_at s p ≡ a
  unfolding tag_at attributes_of
  tag_spelled d =
      next_is _ (word_complete word_cut.0) (omega arith)
      (next_is _ (numeral_complete n name_cut.0 no_digit).0 (omega arith)
      (next_is _ (attributes_complete t.loose own_cut.0 none_follows (omega arith)) (omega arith)
      (ap (λ (y : Bool). pick y (skip s c) 0) (ap is_distinct tag_attributes ∙ d) ∙ skipped)))
