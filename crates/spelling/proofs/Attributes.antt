-- Attributes: the reader of one, and of one after another, reads exactly what is spelled.
use Prim.Native.Nat.{ℕ, zero, suc, ◌+◌, ◌≤◌, ◌<◌}
use mathlib.Core.Path.{◌≡◌, refl, sym, ap, subst, ◌∙◌}
use mathlib.Core.Logic.{inl, inr}
use mathlib.Core.Bool.{Bool, true, false, not}
use mathlib.Core.List.{List, [], ◌∷◌, ◌++◌}
use native.Mathlib.Decide.{ℕ_discrete, dec_lt}
use native.Mathlib.Omega.{arith}
use lib.Dec.{T, eqb, eqb→eq}
use lib.ListN.{length, drop, get_or-eq_default}
use Rattle.columns.proofs.Test.{if_lt_yes, if_lt_no}
use Rattle.columns.specs.Test.{pick, if_lt}
use Rattle.model.proofs.Truth.{is_true, true_is, and_is, or_is, not_is, eqb_is}
use Rattle.model.specs.Bounds.{missing}
use Rattle.model.specs.Bytes.{byte_at}
use Rattle.model.specs.Forest.{Cells}
use Rattle.model.specs.Form.{is_digit, number_in, next, many, skip, expect, numeral_at, quoted_at}
use Rattle.model.specs.Form.{attribute_at, is_attribute}
use Rattle.model.specs.Text.{decimal}
use Rattle.model.specs.Xml.{is_white, White, is_quote, column_letter, equals, Attribute, attribute}
use Rattle.numerals.proofs.Words.{white_no_digit, quote_no_digit}
use Rattle.readers.proofs.Next.{next_read}
use Rattle.readers.proofs.Many.{many_done, many_more, many_fails}
use Rattle.readers.specs.Stands.{Stands, Loose, no_more, one_more, GoesOn}
use Rattle.spelling.proofs.Small.{skip_sound, skip_complete, skip_le, expect_sound, expect_complete}
use Rattle.spelling.proofs.Small.{mark_complete, next_is, numeral_sound, numeral_complete, number_stands}
use Rattle.spelling.proofs.Stands.{stands_cut, stands_join, stands_none, none_stands, stands_one, stands_byte}
use Rattle.spelling.proofs.Stands.{stands_grows}

-- a quote is no white space
quote_no_white : (x : ℕ) → T (is_quote x) → is_white x ≡ false
quote_no_white x t =
    elim ((or_is (eqb x 34) (eqb x 39)).0 t)
    [ inl u ↦ ap is_white (eqb→eq x 34 u) | inr u ↦ ap is_white (eqb→eq x 39 u) ]

-- white space before a byte that is no digit begins with no digit
no_digit_ahead : {s : List ℕ} {p : ℕ} (w : List ℕ) (x : ℕ) (rest : List ℕ) {q : ℕ} → White w → is_digit x ≡ false
    → Stands s p (w ++ (x ∷ rest)) q → is_digit (byte_at s p) ≡ false
no_digit_ahead [] x rest all e h = ap is_digit (stands_byte h) ∙ e
no_digit_ahead (y ∷ w) x rest all e h = ap is_digit (stands_byte h) ∙ white_no_digit y all.0

-- a value in quotes
abbrev quoted_text : ℕ → ℕ → List ℕ
quoted_text k value = k ∷ (decimal value ++ (k ∷ []))

quoted_sound : {s : List ℕ} {p q : ℕ} → quoted_at s p ≡ q → (q ≡ 0 → ⊥)
    → (k : ℕ) × (value : ℕ) × T (is_quote k) × (value < missing) × Stands s p (quoted_text k value) q
unfolding quoted_at
quoted_sound {s} {p} {q} e z = at (is_quote (byte_at s p)) refl e
  where
    value : ℕ → ℕ
    value r = if_lt (number_in (drop (p + 1) s)) missing (expect s (byte_at s p) r) 0

    small : (r n : ℕ) → number_in (drop (p + 1) s) ≡ n → value r ≡ q → Dec (n < missing)
        → (n < missing) × Stands s r (byte_at s p ∷ []) q
    small r n i f (yes l) =
        (l, expect_sound (sym (if_lt_yes 0 (subst (λ (k : ℕ). k < missing) (sym i) l)) ∙ f) z)
    small r n i f (no l) =
        let g : q ≡ 0 = sym f ∙ if_lt_no (expect s (byte_at s p) r) (omega arith) in
        absurd (z g)

    at : (t : Bool) → is_quote (byte_at s p) ≡ t → pick t (next (numeral_at s (p + 1)) value) 0 ≡ q
        → (k : ℕ) × (value : ℕ) × T (is_quote k) × (value < missing) × Stands s p (quoted_text k value) q
    at false g f = absurd (z (sym f))
    at true g f =
        let r = next_read (numeral_at s (p + 1)) value f z in
        let n = numeral_sound {s = s} {p = p + 1} refl r.0 in
        let m = small (numeral_at s (p + 1)) n.0 (number_stands n.0 n.1 n.2) r.1 (dec_lt n.0 missing) in
        let h = n.1 in
        let first = stands_one s p (omega arith) in
        (byte_at s p, n.0, true_is g, m.0, stands_join first (stands_join h m.1))

quoted_complete : {s : List ℕ} {p : ℕ} (k value : ℕ) {q : ℕ} → T (is_quote k) → value < missing
    → Stands s p (quoted_text k value) q → quoted_at s p ≡ q
unfolding quoted_at
quoted_complete {s} {p} k value {q} t l h =
    let c = stands_cut s p (k ∷ []) (decimal value ++ (k ∷ [])) q h in
    let d = stands_cut s (p + 1) (decimal value) (k ∷ []) q c.1 in
    let e = ap is_digit (stands_byte d.1) ∙ quote_no_digit k t in
    let b = stands_byte h in
    picked (is_quote (byte_at s p)) (is_true (subst (λ (y : ℕ). T (is_quote y)) (sym b) t))
    (next_is _ (numeral_complete value d.0 e).0 (omega arith)
    (if_lt_yes 0 (subst (λ (n : ℕ). n < missing) (sym (number_stands value d.0 e)) l)
    ∙ expect_complete (subst (λ (y : ℕ). Stands s (p + 1 + length (decimal value)) (y ∷ []) q) (sym b) d.1)))
  where
    picked : (y : Bool) {x : ℕ} → y ≡ true → x ≡ q → pick y x 0 ≡ q
    picked y {x} e f = ap (λ (u : Bool). pick u x 0) e ∙ f

-- one attribute: what is known where one follows
follows : (s : List ℕ) (p : ℕ) → is_attribute s p ≡ true → (skip s p ≡ p → ⊥) × (byte_at s (skip s p) ≡ column_letter)
unfolding is_attribute
follows s p e =
    let t = (and_is (not (eqb (skip s p) p)) (eqb (byte_at s (skip s p)) column_letter)).0 (true_is e) in (
      λ z. (not_is (eqb (skip s p) p)).0 t.0 ((eqb_is (skip s p) p).1 z),
      (eqb_is (byte_at s (skip s p)) column_letter).0 t.1,
    )

-- it follows inside the text
follows_inside : (s : List ℕ) (p : ℕ) → is_attribute s p ≡ true → p < length s
follows_inside s p e = at (dec_lt p (length s))
  where
    at : Dec (p < length s) → p < length s
    at (yes l) = l
    at (no l) =
        let low = skip_le s p in
        let z = sym (get_or-eq_default s 0 {n = skip s p} (omega arith)) ∙ (follows s p e).1 in
        absurd (omega arith)

-- white space that is not empty
white_some : {s : List ℕ} {p m : ℕ} (w : List ℕ) → White w → Stands s p w m → (m ≡ p → ⊥)
    → (x : ℕ) × (l : List ℕ) × T (is_white x) × White l × Stands s p (x ∷ l) m
white_some [] all h n = absurd (n (none_stands h))
white_some (x ∷ l) all h n = (x, l, all.0, all.1, h)

-- where one follows and something is read, an attribute stands there
pub attribute_sound : {s : List ℕ} {p q : ℕ} → is_attribute s p ≡ true → attribute_at s p ≡ q → (q ≡ 0 → ⊥)
    → (a : List ℕ) × (column : ℕ) × (value : ℕ) × Attribute a column value × Stands s p a q
unfolding attribute_at
attribute_sound {s} {p} {q} t e z =
    let i = follows_inside s p t in
    let blank = skip_sound s p (omega arith) in
    let w = white_some blank.0 blank.1 blank.2 (follows s p t).0 in
    let a = next_read (expect s column_letter (skip s p)) _ e z in
    let b = next_read (numeral_at s _) _ a.1 z in
    let n = numeral_sound {s = s} refl b.0 in
    let u = skip_sound s _ n.1.within in
    let c = next_read (expect s equals (skip s _)) _ b.1 z in
    let sign = expect_sound {s = s} {x = equals} refl c.0 in
    let v = skip_sound s _ sign.within in
    let k = quoted_sound c.1 z in (
      _,
      n.0,
      k.1,
      attribute w.0 w.1 u.0 v.0 k.0 n.0 k.1 w.2 w.3 u.1 v.1 k.2 k.3,
      stands_join w.4 (stands_join (expect_sound {s = s} {x = column_letter} refl a.0) (stands_join n.1
          (stands_join u.2 (stands_join sign (stands_join v.2 k.4))))),
    )

-- an attribute that stands there is read
pub attribute_complete : {s : List ℕ} {p : ℕ} {a : List ℕ} {column value q : ℕ} → Attribute a column value
    → Stands s p a q → attribute_at s p ≡ q
unfolding attribute_at
attribute_complete {s} {p} {q} (attribute x w u v k column value tx tw tu tv tk l) h =
    let a = mark_complete (x ∷ w) column_letter _ (tx, tw) refl h in
    let c = stands_cut s a.0 (decimal column) _ q a.3 in
    let b = mark_complete u equals _ tu refl c.1 in
    let d = stands_cut s b.0 v (quoted_text k value) q b.3 in
    let past = skip_complete d.0 tv (ap is_white (stands_byte d.1) ∙ quote_no_white k tk) in
    next_is _ a.1 (λ z. omega (arith, a.2))
    (next_is _ (numeral_complete column c.0 (no_digit_ahead u equals _ tu refl c.1)).0 (λ z. omega (arith, a.2))
    (next_is _ b.1 (λ z. omega (arith, b.2)) (ap (quoted_at s) past ∙ quoted_complete k value tk l d.1)))

-- where one stands one follows
pub attribute_begins : {s : List ℕ} {p : ℕ} {a : List ℕ} {column value q : ℕ} → Attribute a column value
    → Stands s p a q → is_attribute s p ≡ true
unfolding is_attribute
attribute_begins {s} {p} {q} (attribute x w u v k column value tx tw tu tv tk l) h =
    let c = stands_cut s p (x ∷ w) _ q h in
    let past = skip_complete c.0 (tx, tw) (ap is_white (stands_byte c.1)) in
    is_true ((and_is (not (eqb (skip s p) p)) (eqb (byte_at s (skip s p)) column_letter)).1 (
      (not_is (eqb (skip s p) p)).1 (λ t. omega (arith, (eqb_is (skip s p) p).0 t)),
      (eqb_is (byte_at s (skip s p)) column_letter).1 (ap (byte_at s) past ∙ stands_byte c.1),
    ))

-- an attribute is not empty
attribute_grows : {s : List ℕ} {p : ℕ} {a : List ℕ} {column value q : ℕ} → Attribute a column value → Stands s p a q
    → p < q
attribute_grows (attribute x w u v k column value tx tw tu tv tk l) h = stands_grows h

-- attributes are inside the text, and reading one goes on
pub attribute_goes_on : (s : List ℕ) → GoesOn s (is_attribute s) (attribute_at s)
attribute_goes_on s = record {
  inside = follows_inside s;
  onward = λ p r t e z. let a = attribute_sound t e z in attribute_grows a.3 a.4;
}

-- one after another: what was read from p to q
record Read (s : List ℕ) (p q : ℕ) : Type 0 where
  word : List ℕ
  cells : Cells
  loose : Loose word cells
  stands : Stands s p word q
  stop : is_attribute s q ≡ false

-- what was read is nothing, or one and what was read behind it
read_on : (s : List ℕ) (p : ℕ) {q : ℕ} → p ≤ length s → many s (is_attribute s) (attribute_at s) p ≡ q → (q ≡ 0 → ⊥)
    → ((r : ℕ) → p < r → r ≤ length s → many s (is_attribute s) (attribute_at s) r ≡ q → Read s r q) → Read s p q
read_on s p {q} l e z more = at (is_attribute s p) refl (ℕ_discrete (attribute_at s p) 0)
  where
    on : GoesOn s (is_attribute s) (attribute_at s)
    on = attribute_goes_on s

    at : (b : Bool) → is_attribute s p ≡ b → Dec (attribute_at s p ≡ 0) → Read s p q
    at false t d =
        let k = sym (many_done s (is_attribute s) (attribute_at s) on t) ∙ e in
        record {
          word = [];
          cells = [];
          loose = no_more;
          stands = subst (λ (i : ℕ). Stands s p [] i) k (stands_none s p l);
          stop = subst (λ (i : ℕ). is_attribute s i ≡ false) k t;
        }
    at true t (yes f) = absurd (z (sym e ∙ many_fails s (is_attribute s) (attribute_at s) on t f))
    at true t (no f) =
        let a = attribute_sound t refl f in
        let go = sym (many_more s (is_attribute s) (attribute_at s) on t refl f) ∙ e in
        let r = more (attribute_at s p) (attribute_grows a.3 a.4) a.4.within go in
        record {
          word = a.0 ++ r.word;
          cells = (a.1, a.2) ∷ r.cells;
          loose = one_more a.3 r.loose;
          stands = stands_join a.4 r.stands;
          stop = r.stop;
        }

-- all of them, where n bytes at most are left
all_read : (n : ℕ) (s : List ℕ) (p : ℕ) {q : ℕ} → p ≤ length s → length s ≤ p + n
    → many s (is_attribute s) (attribute_at s) p ≡ q → (q ≡ 0 → ⊥) → Read s p q
all_read zero s p l m e z = read_on s p l e z (λ r a b f. absurd (omega arith))
all_read (suc n) s p l m e z = read_on s p l e z (λ r a b f. all_read n s r b (omega arith) f z)

-- where something is read, attributes stand there
pub attributes_sound : {s : List ℕ} {p q : ℕ} → p ≤ length s → (p ≡ 0 → ⊥)
    → many s (is_attribute s) (attribute_at s) p ≡ q → (q ≡ 0 → ⊥)
    → (l : List ℕ) × (cells : Cells) × Loose l cells × Stands s p l q
attributes_sound {s} {p} l n e z =
    let r = all_read (length s) s p l (omega arith) e z in
    (r.word, r.cells, r.loose, r.stands)

-- and no other follows
pub attributes_stop : (s : List ℕ) (p : ℕ) {q : ℕ} → p ≤ length s → (p ≡ 0 → ⊥)
    → many s (is_attribute s) (attribute_at s) p ≡ q → (q ≡ 0 → ⊥) → is_attribute s q ≡ false
attributes_stop s p l n e z = (all_read (length s) s p l (omega arith) e z).stop

-- attributes that stand there, with none behind them, are read
pub attributes_complete : {s : List ℕ} {p : ℕ} {l : List ℕ} {cells : Cells} {q : ℕ} → Loose l cells → Stands s p l q
    → is_attribute s q ≡ false → (q ≡ 0 → ⊥) → many s (is_attribute s) (attribute_at s) p ≡ q
attributes_complete {s} {p} {q} no_more h e z =
    let k = none_stands h in
    many_done s (is_attribute s) (attribute_at s) (attribute_goes_on s)
    (subst (λ (i : ℕ). is_attribute s i ≡ false) k e) ∙ sym k
attributes_complete {s} {p} {q} (one_more {a} {l} one more) h e z =
    let c = stands_cut s p a l q h in
    let low = attribute_grows one c.0 in
    many_more s (is_attribute s) (attribute_at s) (attribute_goes_on s) (attribute_begins one c.0)
    (attribute_complete one c.0) (omega arith)
    ∙ attributes_complete {p = p + length a} more c.1 e z
