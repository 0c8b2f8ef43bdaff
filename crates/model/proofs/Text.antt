-- Laws of the text that the listing program prints: how long it is at most, that lines go one behind the other, and
-- the album's.
use Prim.Native.Nat.{ℕ, zero, suc, ◌+◌, ◌-◌, ◌*◌, ◌/◌, ◌%◌, ◌^◌, ◌≤◌, ◌<◌, zero-le}
use mathlib.Core.Path.{◌≡◌, refl, sym, ap, subst, ◌∙◌}
use mathlib.Core.Logic.{◌⊎◌, inl, inr, ⊎_elim}
use mathlib.Core.List.Memᴰ
use mathlib.Core.List.{List, [], ◌∷◌, ◌++◌, append_assoc, Memᴰ}
use native.Mathlib.Nat.{pow-suc}
use native.Mathlib.Omega.{arith}
use lib.ListN.{length, take, drop, length-append, take-append-drop}
use lib.Pow.{pow_mono}
use lib.Seq.{take_all, length-take-le}
use Rattle.columns.specs.Bound.{column_bound}
use Rattle.columns.proofs.Test.{if_eq_yes, if_eq_no, if_lt_yes, if_lt_no}
use Rattle.model.specs.Bounds.{file_bound, table_bound, row}
use Rattle.model.specs.Catalogue.{tables, sets, visible}
use Rattle.model.specs.Check.{Accepted}
use Rattle.model.specs.Listing.{cells, ordinary, Stands}
use Rattle.model.specs.Calls.{flat}
use Rattle.model.specs.Album.{album, album_lines}
use Rattle.model.specs.Text.{decimal, decimal_in, row_word, right_text, entry_text, entry_line, lines_of, head_line}
use Rattle.model.specs.Text.{listing_text, answer_text}
use Rattle.model.specs.declared.Entry.{Entry}
use Rattle.model.proofs.Check.{accepted_tables, accepted_visible}
use Rattle.model.proofs.Rights.{right_is}
use Rattle.model.proofs.Calls.{le_or_lt, flat_append}
use Rattle.model.proofs.Listing.{stands_is}
use Rattle.model.proofs.Short.{sets_few, entries_few}
use Rattle.model.proofs.Computes.{computes}

-- a number below 10^k has k digits at most
decimal_in_short : (fuel k n : ℕ) → n < 10 ^ suc k → length (decimal_in fuel n) ≤ suc k
unfolding decimal_in
decimal_in_short zero k n h = zero-le
decimal_in_short (suc fuel) k n h = ⊎_elim (more (λ j. decimal_in_short fuel j (n / 10)) k h) one (le_or_lt 10 n)
  where
    one : n < 10 → length (decimal_in (suc fuel) n) ≤ suc k
    one l = rw (if_lt_yes (decimal_in fuel (n / 10) ++ ((48 + n % 10) ∷ [])) l) (omega arith)

    more : ((j : ℕ) → n / 10 < 10 ^ suc j → length (decimal_in fuel (n / 10)) ≤ suc j) → (j : ℕ) → n < 10 ^ suc j
        → 10 ≤ n → length (decimal_in (suc fuel) n) ≤ suc j
    more ih zero g l = absurd (omega arith)
    more ih (suc j) g l =
        let p : 10 ^ suc (suc j) ≡ 10 ^ suc j * 10 = pow-suc 10 (suc j) in
        let i = ih j (omega arith) in
        rw (if_lt_no ((48 + n) ∷ []) l) (omega (arith, length-append (decimal_in fuel (n / 10)) ((48 + n % 10) ∷ [])))

pub decimal_short : (k n : ℕ) → n < 10 ^ suc k → length (decimal n) ≤ suc k
unfolding decimal
decimal_short k n h = decimal_in_short (suc n) k n h

-- the lines of two runs of entries, one behind the other
pub lines_append : (es fs : List Entry) → lines_of (es ++ fs) ≡ lines_of es ++ lines_of fs
unfolding lines_of
lines_append [] fs = refl
lines_append (e ∷ es) fs =
    ap (λ (l : List ℕ). entry_line e ++ l) (lines_append es fs)
    ∙ sym (append_assoc (entry_line e) (lines_of es) (lines_of fs))

-- a line has 13 bytes at most where each number is in its bound: 2 for the target, 5 for the left side, 3 for the
-- right side
right_short : (a : ℕ) → (a < column_bound) ⊎ (a ≡ row) → length (right_text a) ≤ 3
unfolding right_text
right_short a (inl h) =
    rw (if_eq_no row_word (λ (e : a ≡ row). omega arith)) (omega (arith, decimal_short 1 a (omega arith)))
right_short a (inr e) = rw (if_eq_yes (decimal a) e) (omega arith)

line_short : (e : Entry) → e.target < table_bound → e.left < 2 ^ column_bound → (e.right < column_bound)
    ⊎ (e.right ≡ row) → length (entry_line e) ≤ 13
unfolding entry_line entry_text
line_short e t x r =
    simp length-append
    (omega (
      arith,
      decimal_short 1 e.target (omega arith),
      decimal_short 4 e.left (omega arith),
      right_short e.right r,
    ))

-- each line of a run is that short
lines_short_each : (es : List Entry) → ((e : Entry) → Memᴰ e es → length (entry_line e) ≤ 13)
    → length (lines_of es) ≤ 13 * length es
unfolding lines_of
lines_short_each [] h = zero-le
lines_short_each (e ∷ es) h =
    omega (
      arith,
      length-append (entry_line e) (lines_of es),
      h e (Memᴰ.head refl),
      lines_short_each es (λ f m. h f (Memᴰ.tail m)),
    )

-- what stands from place p on, and before a later place
pub flat_from : {A : Type 0} (p : ℕ) (cs : List (List A)) → flat cs ≡ flat (take p cs) ++ flat (drop p cs)
flat_from p cs = ap flat (sym (take-append-drop p cs)) ∙ flat_append (take p cs) (drop p cs)

module _ (cat : List ℕ) (ok : Accepted cat) where
  -- the entries of an accepted catalogue have such lines
  entry_short : (e : Entry) → Memᴰ e (flat (cells (ordinary cat))) → length (entry_line e) ≤ 13
  entry_short e m = at ((stands_is (ordinary cat) e).0 m)
    where
      at : Stands (ordinary cat) e → length (entry_line e) ≤ 13
      at h =
          let few = accepted_tables cat ok in
          let narrow = accepted_visible cat ok e.target h.target in
          let lefts : 2 ^ visible cat e.target ≤ 2 ^ column_bound = pow_mono narrow in
          let below = h.left in
          let exists = h.target in
          line_short e (omega arith) (omega arith)
          (⊎_elim (λ (r : (_ ≤ e.right) × (e.right < visible cat e.target)). let s = r.1 in inl (omega arith)) inr
          ((right_is cat e.target e.right).0 h.right))

  -- so have those of the sets from a place on, up to a later one
  pub lines_short : (p k : ℕ) → length (lines_of (flat (take k (drop p (cells (ordinary cat))))))
      ≤ 13 * length (flat (take k (drop p (cells (ordinary cat)))))
  lines_short p k =
      lines_short_each (flat (take k (drop p cs))) (λ e m. entry_short e (later e (earlier e m)))
    where
      cs : List (List Entry)
      cs = cells (ordinary cat)

      earlier : (e : Entry) → Memᴰ e (flat (take k (drop p cs))) → Memᴰ e (flat (drop p cs))
      earlier e m =
          subst (λ (l : List Entry). Memᴰ e l) (sym (flat_from k (drop p cs)))
          (Memᴰ.append_left (flat (drop k (drop p cs))) m)

      later : (e : Entry) → Memᴰ e (flat (drop p cs)) → Memᴰ e (flat cs)
      later e m =
          subst (λ (l : List Entry). Memᴰ e l) (sym (flat_from p cs)) (Memᴰ.append_right (flat (take p cs)) m)

  -- the head line has 40 bytes at most
  pub head_short : length (head_line (tables cat) (sets cat) (length (flat (cells (ordinary cat))))) ≤ 40
  unfolding head_line
  head_short =
      let few = accepted_tables cat ok in
      let some = sets_few cat ok in
      let all = entries_few cat ok in
      simp length-append
      (omega (
        arith,
        decimal_short 1 (tables cat) (omega arith),
        decimal_short 6 (sets cat) (omega arith),
        decimal_short 7 (length (flat (cells (ordinary cat)))) (omega arith),
      ))

  -- the whole text of a listing
  pub listing_short : length (listing_text cat) < 2 ^ 32
  unfolding listing_text
  listing_short =
      let some = sets_few cat ok in
      let all = entries_few cat ok in
      let lines = lines_short_each (flat (cells (ordinary cat))) entry_short in
      omega (
        arith,
        head_short,
        length-append (head_line (tables cat) (sets cat) (length (flat (cells (ordinary cat)))))
            (lines_of (flat (cells (ordinary cat)))),
      )

-- what the first bytes of a longer input say is what all of it says, so a program need not read more than one byte
-- past the bound
pub bytes_enough : (cat : List ℕ) → answer_text (take (suc file_bound) cat) ≡ answer_text cat
unfolding answer_text
bytes_enough cat =
    ⊎_elim (λ h. ap answer_text (take_all (suc file_bound) cat h)) long (le_or_lt (length cat) (suc file_bound))
  where
    long : suc file_bound < length cat → answer_text (take (suc file_bound) cat) ≡ answer_text cat
    long h =
        if_lt_yes _ (omega (arith, length-take-le (suc file_bound) cat (omega arith))) ∙ sym (if_lt_yes _ (omega arith))

-- the album's text, byte for byte
pub album_text_lem : answer_text album ≡ album_lines
unfolding computes
album_text_lem = refl
