-- The pages of a text, over plain values: what stands in the buffer and what is still to come make the whole.
use Prim.Native.Nat.{ℕ, ◌+◌, ◌*◌, ◌^◌, ◌≤◌, ◌<◌}
use mathlib.Core.Path.{◌≡◌, refl, sym, ap, ap₂, subst, ◌∙◌}
use mathlib.Core.Logic.{⊎_elim}
use mathlib.Core.List.{List, [], ◌++◌, append-nil, append_assoc}
use native.Mathlib.Omega.{arith}
use lib.ListN.{length, take, drop, length-append, drop_of_length-le}
use lib.Seq.{drop-drop, length-take-le}
use Rattle.columns.specs.Test.{if_le}
use Rattle.columns.proofs.Test.{if_lt_yes, if_lt_no, if_le_yes, is_if_eq, is_if_ne, is_if_lt, is_if_not_lt}
use Rattle.model.specs.Bounds.{file_bound}
use Rattle.model.specs.Catalogue.{tables, sets}
use Rattle.model.specs.Check.{Accepted, check_code}
use Rattle.model.specs.Calls.{flat}
use Rattle.model.specs.Listing.{cells, ordinary}
use Rattle.model.specs.Text.{lines_of, head_line, refused_line, too_long, listing_text, answer_text}
use Rattle.model.specs.declared.Entry.{Entry}
use Rattle.model.proofs.Calls.{le_or_lt, flat_drop_le}
use Rattle.model.proofs.Listing.{cells_length}
use Rattle.model.proofs.Text.{decimal_short, lines_append, flat_from, lines_short, head_short, listing_short}
use Rattle.model.proofs.Short.{sets_few, entries_few}
use Rattle.text.specs.Puts.{Puts}
use Rattle.text.proofs.Puts.{puts_both, puts_same, puts_first}
use Rattle.listing.specs.Filled.{run_bound}
use Rattle.pages.specs.Pages.{page_bound, Listable, rest, Paged}
use Rattle.pages.specs.declared.Page.{Page}
use Rattle.pages.proofs.Runs.{Ran}

abbrev pub page : ℕ → ℕ → ℕ → Page
page len place last = record { len = len; place = place; last = last }

-- nothing is still to come where there is no later place
pub rest_none : (cat : List ℕ) (place last : ℕ) → last ≤ place → rest cat place last ≡ []
unfolding rest
rest_none cat place last h = if_lt_no _ h

-- a text that is one page
pub paged_alone : (cat word : List ℕ) {b c : List ℕ} {n : ℕ} → Puts word 0 b c n → length word ≤ length b
    → Paged cat word c (page n 0 0)
paged_alone cat word {b} {c} {n} p h =
    let first = puts_first word p h in
    let long = first.0 in
    let same = p.same in
    record {
      is = ap₂ (λ (l : List ℕ) (m : List ℕ). l ++ m) first.1 (rest_none cat 0 0 (omega arith)) ∙ append-nil word;
      within = omega arith;
      more = λ l. absurd (omega arith);
    }

module _ (cat : List ℕ) (last : ℕ) (h : Listable cat last) where
  abbrev cs : List (List Entry)
  cs = cells (ordinary cat)

  lastly : last ≡ length cs
  lastly = h.whole ∙ sym (cells_length cat)

  -- up to the last place, what is still to come are the lines of the entries from there on
  rest_is : (place : ℕ) → rest cat place last ≡ lines_of (flat (drop place cs))
  unfolding rest lines_of
  rest_is place =
      ⊎_elim (λ l. if_lt_no _ l
      ∙ sym (ap (λ (ds : List (List Entry)). lines_of (flat ds))
      (drop_of_length-le cs {i = place} (omega (arith, lastly)))))
      (λ l. if_lt_yes _ l) (le_or_lt last place)

  -- the lines of a run, and then what is still to come behind it
  lines_rest : (place reached count : ℕ) (run : List Entry) → Ran cs last place reached count run
      → lines_of (take count run) ++ rest cat reached last ≡ lines_of (flat (drop place cs))
  lines_rest place reached count run g =
      ap₂ (λ (es : List Entry) (l : List ℕ). lines_of es ++ l) g.records (rest_is reached)
      ∙ ap (λ (ds : List (List Entry)). lines_of (flat (take g.sets (drop place cs))) ++ lines_of (flat ds))
      (ap (λ (n : ℕ). drop n cs) g.reaches ∙ sym (drop-drop g.sets place cs))
      ∙ sym (lines_append (flat (take g.sets (drop place cs))) (flat (drop g.sets (drop place cs))))
      ∙ ap lines_of (sym (flat_from g.sets (drop place cs)))

  -- they fit the page
  lines_fit : (place reached count : ℕ) (run : List Entry) → Ran cs last place reached count run
      → length (lines_of (take count run)) ≤ 13 * run_bound
  lines_fit place reached count run g =
      let short = lines_short cat h.accepted place g.sets in
      let counted = g.counted in
      let fits = g.fits in
      omega (arith, ap (λ (es : List Entry). length (lines_of es)) g.records)

  -- a page of a run behind a word that is put before its lines
  pub paged_run : (word text : List ℕ) (place reached count : ℕ) (run : List Entry) {b c d : List ℕ} {m n : ℕ}
      → Ran cs last place reached count run → Puts word 0 b c m → Puts (lines_of (take count run)) m c d n
      → length word ≤ 64 → page_bound ≤ length b → word ++ lines_of (flat (drop place cs)) ≡ text
      → Paged cat text d (page n reached last)
  paged_run word text place reached count run {b} {c} {d} {m} {n} g p q small room e =
      let lines = lines_of (take count run) in
      let both = puts_both word lines p q in
      let fit = lines_fit place reached count run g in
      let sum = length-append word lines in
      let first = puts_first (word ++ lines) both (omega arith) in
      let long = first.0 in
      let same = both.same in
      record {
        is =
            ap (λ (l : List ℕ). l ++ rest cat reached last) first.1
            ∙ append_assoc word lines (rest cat reached last)
            ∙ ap (λ (l : List ℕ). word ++ l) (lines_rest place reached count run g)
            ∙ e;
        within = omega arith;
        more = λ _. h;
      }

  -- the page behind another
  pub paged_next : (place reached count : ℕ) (run : List Entry) {b d : List ℕ} {n : ℕ}
      → Ran cs last place reached count run → Puts (lines_of (take count run)) 0 b d n → page_bound ≤ length b
      → Paged cat (rest cat place last) d (page n reached last)
  paged_next place reached count run {b} {d} {n} g q room =
      paged_run [] (rest cat place last) place reached count run g
      (record { same = refl; bytes = λ _. refl; behind = λ _. refl }) q (omega arith) room (sym (rest_is place))

  -- one run more is counted
  pub counted_more : (place reached count : ℕ) (run : List Entry) → Ran cs last place reached count run
      → count + length (flat (drop reached cs)) ≡ length (flat (drop place cs))
  counted_more place reached count run g =
      let counted = g.counted in
      let ds = drop place cs in
      let all : length (flat ds) ≡ length (flat (take g.sets ds)) + length (flat (drop g.sets ds)) =
      ap length (flat_from g.sets ds) ∙ length-append (flat (take g.sets ds)) (flat (drop g.sets ds)) in
      let same : length (flat (drop reached cs)) ≡ length (flat (drop g.sets ds)) =
      ap (λ (es : List (List Entry)). length (flat es))
      (ap (λ (n : ℕ). drop n cs) g.reaches ∙ sym (drop-drop g.sets place cs)) in
      omega arith

  -- at the last place nothing is left to count
  pub counted_none : (place : ℕ) → last ≤ place → length (flat (drop place cs)) ≡ 0
  counted_none place l =
      ap (λ (ds : List (List Entry)). length (flat ds)) (drop_of_length-le cs {i = place} (omega (arith, lastly)))

  -- and what is counted is not much
  pub counted_few : (place : ℕ) → length (flat (drop place cs)) ≤ 2 ^ 25
  counted_few place = omega (arith, flat_drop_le place cs, entries_few cat h.accepted, sets_few cat h.accepted)

  -- the first page of a listing
  pub paged_head : (reached count t entries : ℕ) (run : List Entry) {b c d : List ℕ} {m n : ℕ}
      → Ran cs last 0 reached count run
      → t ≡ tables cat → entries ≡ count + length (flat (drop reached cs)) → Puts (head_line t last entries) 0 b c m
      → Puts (lines_of (take count run)) m c d n → page_bound ≤ length b
      → Paged cat (listing_text cat) d (page n reached last)
  unfolding listing_text
  paged_head reached count t entries run {b} {c} {d} {m} {n} g tabled e p q room =
      let is : head_line t last entries ≡ head_line (tables cat) (sets cat) (length (flat cs)) =
      ap (λ (k : ℕ). head_line k last entries) tabled
      ∙ ap₂ (head_line (tables cat)) h.whole (e ∙ counted_more 0 reached count run g) in
      paged_run (head_line (tables cat) (sets cat) (length (flat cs))) (listing_text cat) 0 reached count run g
      (puts_same is p) q
      (omega (arith, head_short cat h.accepted)) room refl

-- the bytes written of a page, and what is still to come, are as many as the text has
pub paged_counts : (cat text out : List ℕ) (p : Page) (r : ℕ) → Paged cat text out p
    → r ≡ if_le p.len (length out) p.len 0 → r + length (rest cat p.place p.last) ≡ length text
paged_counts cat text out p r g e =
    let within = g.within in
    omega (
      arith,
      e ∙ if_le_yes 0 within,
      length-take-le p.len out within,
      length-append (take p.len out) (rest cat p.place p.last),
      ap length g.is,
    )

-- the three answers
pub answer_long : (cat : List ℕ) → file_bound < length cat → too_long ≡ answer_text cat
unfolding answer_text
answer_long cat l = is_if_lt _ l refl

pub answer_refused : (cat : List ℕ) (code : ℕ) → length cat ≤ file_bound → code ≡ check_code cat → (code ≡ 0 → ⊥)
    → refused_line code ≡ answer_text cat
unfolding answer_text
answer_refused cat code l e n = is_if_not_lt _ l (is_if_ne _ (λ z. n (e ∙ z)) (ap refused_line e))

pub answer_listed : (cat : List ℕ) → length cat ≤ file_bound → Accepted cat → listing_text cat ≡ answer_text cat
unfolding answer_text
answer_listed cat l ok = is_if_not_lt _ l (is_if_eq _ ok refl)

pub paged_as : {cat text other out : List ℕ} {p : Page} → text ≡ other → Paged cat text out p → Paged cat other out p
paged_as {cat} {text} {other} {out} {p} e g = subst (λ (t : List ℕ). Paged cat t out p) e g

-- a refusal fits a page, and what is printed for an accepted catalogue can be counted
pub refused_short : (code : ℕ) → code < 2 ^ 32 → length (refused_line code) ≤ 64
unfolding refused_line
refused_short code h = simp length-append (omega (arith, decimal_short 9 code (omega arith)))

pub answer_small : (cat : List ℕ) → Accepted cat → length (answer_text cat) < 2 ^ 32
answer_small cat ok =
    ⊎_elim (λ l. omega (arith, ap length (answer_listed cat l ok), listing_short cat ok))
    (λ l. omega (arith, ap length (answer_long cat l))) (le_or_lt (length cat) file_bound)
