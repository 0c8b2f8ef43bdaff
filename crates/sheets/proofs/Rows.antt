-- The codes of a row, and the rows of a table, written one after the other.
use Prim.Native.Nat.{ℕ, zero, suc, ◌+◌, ◌*◌, ◌≤◌, ◌<◌}
use mathlib.Core.Path.{◌≡◌, refl, sym, ap, ap₂, ◌∙◌}
use mathlib.Core.List.{List, [], ◌∷◌, ◌++◌}
use native.Mathlib.Nat.{add-zero}
use native.Mathlib.Numerals.{add-one}
use native.Mathlib.Decide.{ℕ_discrete}
use native.Mathlib.Omega.{arith}
use lib.ListN.{length, get_or, take, drop, drop_of_length-le}
use lib.Seq.{sets, drop-cons}
use Rattle.columns.specs.Bound.{column_bound}
use Rattle.columns.specs.Test.{if_eq}
use Rattle.columns.proofs.Test.{if_eq_yes, if_eq_no}
use Rattle.model.specs.Bounds.{missing}
use Rattle.model.specs.Bytes.{bytes2, bytes4}
use Rattle.model.specs.Encode.{codes_of, row_of, rows_bytes}
use Rattle.model.specs.Forest.{Cells, codes_from}
use Rattle.model.specs.Form.{number_in, capped, cells_in}
use Rattle.model.specs.Convert.{Tag, tags_in, rows_from}
use Rattle.attributes.specs.Tags.{Codes}
use Rattle.tags.specs.Next.{NextTag}
use Rattle.attributes.proofs.Digits.{capped_small, capped_is}
use Rattle.standing.proofs.Sound.{codes_many}
use Rattle.encoding.proofs.Sizes.{bytes2_length, bytes4_length, codes_length, row_length}
use Rattle.sheets.specs.Put.{Put}
use Rattle.standing.specs.Tags.{up_of}
use Rattle.sheets.specs.Sheets.{seen_after, bytes_for}
use Rattle.sheets.proofs.Put.{puts_both, put_none, Writing, writing_begun, writing_room, writing_more}
use Rattle.sheets.proofs.Put.{writing_done}

-- the codes that were read are those of the columns
codes_from_lem : (cells : Cells) (codes : List ℕ) → Codes cells codes → (n k : ℕ) → k + n ≤ column_bound
    → take n (drop k codes) ≡ codes_from n k cells
unfolding codes_from
codes_from_lem cells codes r zero k h = refl
codes_from_lem cells codes r (suc n) k h =
    ap (take (suc n)) (drop-cons codes k 0 (omega (arith, r.size)))
    ∙ ap₂ ◌∷◌ (r.each k (omega arith)) (codes_from_lem cells codes r n (suc k) (omega arith))

codes_taken : (cells : Cells) (codes : List ℕ) → Codes cells codes → (n : ℕ) → n ≤ column_bound
    → take n codes ≡ codes_from n 0 cells
codes_taken cells codes r n h = codes_from_lem cells codes r n 0 (omega arith)

codes_first : (xs : List ℕ) (k : ℕ) → k < length xs
    → codes_of (drop k xs) ≡ bytes4 (get_or xs k 0) ++ codes_of (drop (k + 1) xs)
unfolding codes_of
codes_first xs k h = rw add-one (ap codes_of (drop-cons xs k 0 h))

no_codes : (xs : List ℕ) (k : ℕ) → length xs ≤ k → codes_of (drop k xs) ≡ []
unfolding codes_of
no_codes xs k h = ap codes_of (drop_of_length-le xs h)

-- the codes before k are written
pub record Coding (codes before : List ℕ) (at : ℕ) (there : List ℕ) (k : ℕ) : Type 0 where
  pub writing : Writing before at (codes_of codes) there (at + 4 * k) (codes_of (drop k codes))

pub coding_begun : (codes before : List ℕ) (at : ℕ) → Coding codes before at before 0
coding_begun codes before at = record { writing = rw add-zero (writing_begun before at refl) }

module _ (codes before : List ℕ) (at : ℕ) {there : List ℕ} {k : ℕ} (c : Coding codes before at there k) where
  pub coding_room : k < length codes → at + 4 * length codes ≤ length before → at + 4 * k + 4 ≤ length there
  coding_room more h =
      omega (
        arith,
        writing_room c.writing (bytes4 (get_or codes k 0)) (codes_of (drop (k + 1) codes))
            (codes_first codes k more) (omega (arith, codes_length codes)),
        bytes4_length (get_or codes k 0),
      )

  pub coding_more : k < length codes → {after : List ℕ} → after ≡ sets there (at + 4 * k) (bytes4 (get_or codes k 0))
      → Coding codes before at after (k + 1)
  coding_more more e =
      record {
        writing = writing_more c.writing (bytes4 (get_or codes k 0)) _ (codes_first codes k more)
            (record { written = e; end = omega (arith, bytes4_length (get_or codes k 0)) });
      }

  pub coding_done : length codes ≤ k → there ≡ sets before at (codes_of codes)
  coding_done h = (writing_done c.writing (no_codes codes k h)).written

-- a row is its parent row and its codes
pub row_put : (l m n : List ℕ) (at up : ℕ) (codes : List ℕ) (c : ℕ) (cells : Cells) → Codes cells codes
    → c ≤ column_bound → m ≡ sets l at (bytes2 up) → n ≡ sets m (at + 2) (codes_of (take c codes))
    → n ≡ sets l at (row_of up (codes_from c 0 cells))
unfolding row_of
row_put l m n at up codes c cells r h e f =
    puts_both l m n (bytes2 up) (codes_of (codes_from c 0 cells)) at (at + 2) e (omega (arith, bytes2_length up))
    (f ∙ ap (λ (xs : List ℕ). sets m (at + 2) (codes_of xs)) (codes_taken cells codes r c h))

-- the row of a tag, where the tag is of the table and where it is not
module _ (c table up n : ℕ) (cells : Cells) where
  row_is : n ≡ table → bytes_for c table up n cells ≡ row_of up (codes_from c 0 cells)
  unfolding bytes_for
  row_is e = if_eq_yes [] e

  pub row_long : n ≡ table → length (bytes_for c table up n cells) ≡ 2 + 4 * c
  row_long e =
      ap length (row_is e) ∙ row_length up (codes_from c 0 cells) ∙ ap (λ (k : ℕ). 2 + 4 * k) (codes_many c 0 cells)

  pub tag_put : n ≡ table → (l : List ℕ) (at : ℕ) {m : List ℕ} → m ≡ sets l at (row_of up (codes_from c 0 cells))
      → Put l at (bytes_for c table up n cells) m (at + 2 + 4 * c)
  tag_put e l at f =
      record { written = f ∙ sym (ap (sets l at) (row_is e)); end = omega (arith, row_long e) }

  pub tag_passed : (n ≡ table → ⊥) → (l : List ℕ) (at : ℕ) → Put l at (bytes_for c table up n cells) l at
  unfolding bytes_for
  tag_passed d l at = put_none l at (if_eq_no (row_of up (codes_from c 0 cells)) d)

-- a number that is no table's may be read as another such
if_capped : {A : Type 0} (n t : ℕ) (x y : A) → t < missing → if_eq (capped n) t x y ≡ if_eq n t x y
if_capped n t x y l = at (ℕ_discrete n t)
  where
    at : Dec (n ≡ t) → if_eq (capped n) t x y ≡ if_eq n t x y
    at (yes e) = if_eq_yes y (sym (capped_small (omega arith)) ∙ e) ∙ sym (if_eq_yes y e)
    at (no d) = if_eq_no x (λ e. d (capped_is (sym e) l)) ∙ sym (if_eq_no x d)

-- the rows of a tag and of those behind it
module _ (c above table : ℕ) where
  rows_first : (seen n : ℕ) (cells : Cells) (ts : List Tag)
      → rows_bytes (rows_from c above table seen ((n, cells) ∷ ts))
      ≡ bytes_for c table (up_of table seen) n cells
      ++ rows_bytes (rows_from c above table (seen_after above table n seen) ts)
  unfolding rows_from rows_bytes bytes_for seen_after up_of
  rows_first seen n cells ts = at (ℕ_discrete n table)
    where
      at : Dec (n ≡ table) → rows_bytes (rows_from c above table seen ((n, cells) ∷ ts))
          ≡ bytes_for c table (up_of table seen) n cells
          ++ rows_bytes (rows_from c above table (seen_after above table n seen) ts)
      at (yes e) =
          ap rows_bytes (if_eq_yes _ e)
          ∙ ap₂ ◌++◌ (sym (row_is c table (up_of table seen) n cells e))
          (ap (λ (k : ℕ). rows_bytes (rows_from c above table k ts))
          (sym (if_eq_yes (if_eq n above (suc seen) seen) e)))
      at (no d) =
          ap rows_bytes (if_eq_no _ d)
          ∙ ap₂ ◌++◌ (sym (if_eq_no (row_of (up_of table seen) (codes_from c 0 cells)) d))
          (ap (λ (k : ℕ). rows_bytes (rows_from c above table k ts)) (sym (if_eq_no seen d)))

  -- the same by the number as it is read
  module _ (table-low : table < missing) (above_low : above < missing) where
    row_capped : (up n : ℕ) (cells : Cells) → bytes_for c table up (capped n) cells ≡ bytes_for c table up n cells
    unfolding bytes_for
    row_capped up n cells = if_capped n table (row_of up (codes_from c 0 cells)) [] table-low

    seen_capped : (n seen : ℕ) → seen_after above table (capped n) seen ≡ seen_after above table n seen
    unfolding seen_after
    seen_capped n seen =
        ap (if_eq (capped n) table seen) (if_capped n above (suc seen) seen above_low)
        ∙ if_capped n table seen (if_eq n above (suc seen) seen) table-low

    rows_read : (seen n up m : ℕ) (cells : Cells) (ts : List Tag) → up ≡ up_of table seen → m ≡ capped n
        → rows_bytes (rows_from c above table seen ((n, cells) ∷ ts))
        ≡ bytes_for c table up m cells ++ rows_bytes (rows_from c above table (seen_after above table m seen) ts)
    rows_read seen n up m cells ts e f =
        rows_first seen n cells ts
        ∙ ap₂ ◌++◌
        (sym (ap₂ (λ (u k : ℕ). bytes_for c table u k cells) e f ∙ row_capped (up_of table seen) n cells))
        (ap (λ (k : ℕ). rows_bytes (rows_from c above table k ts))
        (sym (ap (λ (k : ℕ). seen_after above table k seen) f ∙ seen_capped n seen)))

-- at most one row more of the parent table
seen_next : (above table n seen : ℕ) → seen_after above table n seen ≤ suc seen
unfolding seen_after
seen_next above table n seen = at (ℕ_discrete n table) (ℕ_discrete n above)
  where
    at : Dec (n ≡ table) → Dec (n ≡ above) → if_eq n table seen (if_eq n above (suc seen) seen) ≤ suc seen
    at (yes e) d = let v = if_eq_yes {x = seen} (if_eq n above (suc seen) seen) e in omega arith
    at (no e) (yes f) =
        let v = if_eq_no seen {y = if_eq n above (suc seen) seen} e in
        let w = if_eq_yes {x = suc seen} seen f in omega arith
    at (no e) (no f) =
        let v = if_eq_no seen {y = if_eq n above (suc seen) seen} e in
        let w = if_eq_no (suc seen) {y = seen} f in omega arith

-- Of the rows of a table those of the tags before p are written, where `seen` rows of the parent table stand.
pub record Rowing (s : List ℕ) (c above table : ℕ) (before : List ℕ) (at p seen : ℕ) (there : List ℕ) (to : ℕ)
    : Type 0 where
  pub writing : Writing before at (rows_bytes (rows_from c above table 0 (tags_in s))) there to
      (rows_bytes (rows_from c above table seen (tags_in (drop p s))))
  pub few : seen ≤ p

module _ (s : List ℕ) (c above table : ℕ) (before : List ℕ) (at : ℕ) where
  pub rowing_begun : Rowing s c above table before at 0 0 before at
  rowing_begun = record { writing = writing_begun before at refl; few = omega arith }

  module _ {p seen : ℕ} {there : List ℕ} {to : ℕ} (r : Rowing s c above table before at p seen there to) where
    pub rowing_done : tags_in (drop p s) ≡ []
        → Put before at (rows_bytes (rows_from c above table 0 (tags_in s))) there to
    unfolding rows_from rows_bytes
    rowing_done e = writing_done r.writing (ap (λ (ts : List Tag). rows_bytes (rows_from c above table seen ts)) e)

    module _ (table-low : table < missing) (above_low : above < missing) {q : ℕ} (next : NextTag s p q) {up m : ℕ}
        (stands : up ≡ up_of table seen) (read : m ≡ capped (number_in (drop q s))) where
      ahead_of : rows_bytes (rows_from c above table seen (tags_in (drop p s)))
          ≡ bytes_for c table up m (cells_in (drop q s))
          ++ rows_bytes (rows_from c above table (seen_after above table m seen) (tags_in (drop q s)))
      ahead_of =
          ap (λ (ts : List Tag). rows_bytes (rows_from c above table seen ts)) next.same
          ∙ rows_read c above table table-low above_low seen (number_in (drop q s)) up m
          (cells_in (drop q s)) (tags_in (drop q s)) stands read

      pub rowing_room : at + length (rows_bytes (rows_from c above table 0 (tags_in s))) ≤ length before
          → to + length (bytes_for c table up m (cells_in (drop q s))) ≤ length there
      rowing_room =
          writing_room r.writing (bytes_for c table up m (cells_in (drop q s)))
          (rows_bytes (rows_from c above table (seen_after above table m seen) (tags_in (drop q s)))) ahead_of

      pub rowing_more : {after : List ℕ} {behind now : ℕ}
          → Put there to (bytes_for c table up m (cells_in (drop q s))) after behind
          → now ≡ seen_after above table m seen → Rowing s c above table before at q now after behind
      rowing_more {after} {behind} {now} put e =
          record {
            writing = writing_more r.writing _ _
                (ahead_of
                ∙ ap (λ (k : ℕ). bytes_for c table up m (cells_in (drop q s))
                ++ rows_bytes (rows_from c above table k (tags_in (drop q s)))) (sym e)) put;
            few = omega (arith, next.behind, r.few, seen_next above table m seen);
          }
