-- How many entries and sets a listing within the bounds has at most: a set that is a key has one entry, and another has
-- entries for columns alone, so 16 at most, and a run of 16 records is never too short for the next set.
use Prim.Native.Nat.{ℕ, zero, suc, ◌+◌, ◌*◌, ◌^◌, ◌≤◌, ◌<◌, zero-le}
use mathlib.Core.Path.{◌≡◌, refl, sym, ap, subst, ◌∙◌}
use mathlib.Core.Logic.{◌⊎◌, inl, inr, ⊎_elim}
use mathlib.Core.List.Memᴰ
use mathlib.Core.List.{List, [], ◌∷◌, ◌++◌, Memᴰ}
use mathlib.Core.Bool.{Bool, true, false}
use native.Mathlib.Decide.{ℕ_discrete}
use native.Mathlib.Omega.{arith}
use lib.Dec.{T}
use lib.ListN.{length, get_or, length-append}
use lib.Pow.{pow_mono}
use Rattle.columns.specs.Bound.{column_bound}
use Rattle.columns.specs.Test.{pick}
use Rattle.columns.specs.Order.{in_order}
use Rattle.model.specs.Bounds.{table_bound, row}
use Rattle.model.specs.Refusal.{number}
use Rattle.model.specs.Catalogue.{sets}
use Rattle.model.specs.Check.{check_code, Accepted}
use Rattle.model.specs.View.{Key, holds}
use Rattle.model.specs.Listed.{listed}
use Rattle.model.specs.Entry.{entry}
use Rattle.model.specs.Listing.{Listing, width_of, rights_of, entries_of, cells_of, cells_from, cells, Bounded}
use Rattle.model.specs.Listing.{RowRight, ordinary}
use Rattle.model.specs.Calls.{flat}
use Rattle.model.specs.List.{list_code}
use Rattle.model.specs.declared.Refusal.TheVariants.{RunTooShort}
use Rattle.model.specs.declared.Entry.{Entry}
use Rattle.model.proofs.Truth.{is_false, decided}
use Rattle.model.proofs.View.{holds_is}
use Rattle.model.proofs.Listed.{listed_is}
use Rattle.model.proofs.Rights.{Ascending, rights_ascending, rights_length, ordinary_bounded, ordinary_row}
use Rattle.model.proofs.Calls.{Outcome, few, past, short, none, outcome}
use Rattle.model.proofs.Listing.{places_from, cells_length}
use Rattle.model.proofs.Complete.{after_none}

-- each cell has no more entries than a target can have columns
abbrev AllShort : List (List Entry) → Type 0
AllShort [] = Unit {0}
AllShort (c ∷ cs) = (length c ≤ column_bound) × AllShort cs

short_append : (cs ds : List (List Entry)) → AllShort cs → AllShort ds → AllShort (cs ++ ds)
short_append [] ds h k = k
short_append (c ∷ cs) ds h k = (h.0, short_append cs ds h.1 k)

short_at : (p : ℕ) (cs : List (List Entry)) → AllShort cs → length (get_or cs p []) ≤ column_bound
short_at p [] h = zero-le
short_at zero (c ∷ cs) h = h.0
short_at (suc p) (c ∷ cs) h = short_at p cs h.1

short_flat : (cs : List (List Entry)) → AllShort cs → length (flat cs) ≤ column_bound * length cs
short_flat [] h = zero-le
short_flat (c ∷ cs) h = omega (arith, length-append c (flat cs), short_flat cs h.1, h.0)

-- the entries of one set
module _ (l : Listing) (t x : ℕ) where
  abbrev Unlisted : ℕ → Type 0
  Unlisted a = T (listed (l.view t) x a) → ⊥

  abbrev count : List ℕ → ℕ
  count rs = length (entries_of l t x rs)

  -- one right more: one entry more at most, and none if it is not listed
  one_more : (a : ℕ) (rs : List ℕ) → count (a ∷ rs) ≤ suc (count rs)
  unfolding entries_of
  one_more a rs = at (listed (l.view t) x a)
    where
      at : (b : Bool) → length (pick b (entry t x a ∷ entries_of l t x rs) (entries_of l t x rs)) ≤ suc (count rs)
      at true = omega arith
      at false = omega arith

  none_more : (a : ℕ) (rs : List ℕ) → Unlisted a → count (a ∷ rs) ≡ count rs
  unfolding entries_of
  none_more a rs n =
      ap (λ (b : Bool). length (pick b (entry t x a ∷ entries_of l t x rs) (entries_of l t x rs)))
      (is_false {b = listed (l.view t) x a} n)

  -- of rights that are not listed none, of any no more entries than rights, and fewer where one is not listed
  no_entries : (rs : List ℕ) → ((a : ℕ) → Memᴰ a rs → Unlisted a) → count rs ≡ 0
  unfolding entries_of
  no_entries [] n = refl
  no_entries (a ∷ rs) n =
      none_more a rs (n a (Memᴰ.head refl)) ∙ no_entries rs (λ c m. n c (Memᴰ.tail m))

  entries_le : (rs : List ℕ) → count rs ≤ length rs
  unfolding entries_of
  entries_le [] = zero-le
  entries_le (a ∷ rs) = omega (arith, one_more a rs, entries_le rs)

  entries_lt : (a : ℕ) (rs : List ℕ) → Memᴰ a rs → Unlisted a → count rs < length rs
  entries_lt a [] m n = absurd (Memᴰ.not-nil m)
  entries_lt a (c ∷ rs) m n = at (entries_lt a rs) (Memᴰ.cases_cons m)
    where
      at : (Memᴰ a rs → Unlisted a → count rs < length rs) → (a ≡ c) ⊎ Memᴰ a rs
          → count (c ∷ rs) < suc (length rs)
      at ih (inl e) = omega (arith, none_more c rs (subst Unlisted e n), entries_le rs)
      at ih (inr k) = omega (arith, one_more c rs, ih k n)

  -- of ascending rights, of which none but the row is listed, one
  row_alone : (rs : List ℕ) → Ascending rs → ((a : ℕ) → Memᴰ a rs → (a ≡ row → ⊥) → Unlisted a) → count rs ≤ 1
  unfolding entries_of
  row_alone [] o n = zero-le
  row_alone (c ∷ rs) o n = at (row_alone rs o.1 (λ a m. n a (Memᴰ.tail m))) (ℕ_discrete c row)
    where
      at : count rs ≤ 1 → Dec (c ≡ row) → count (c ∷ rs) ≤ 1
      at ih (yes e) =
          let z = no_entries rs (λ a m. n a (Memᴰ.tail m) (λ q. omega (arith, o.0 a m))) in
          omega (arith, one_more c rs)
      at ih (no e) = omega (arith, none_more c rs (n c (Memᴰ.head refl) e))

  -- so a key's set has one entry, and another has none for the row
  pub set_short : width_of l t ≤ column_bound → Memᴰ row (rights_of l t) → count (rights_of l t) ≤ column_bound
  set_short narrow m = at (decided (holds (l.view t) x row))
    where
      at : T (holds (l.view t) x row) ⊎ (T (holds (l.view t) x row) → ⊥) → count (rights_of l t) ≤ column_bound
      at (inl k) =
          let one = row_alone (rights_of l t) (rights_ascending l t narrow) (λ a i other s.
          ⊎_elim other (λ (n : Key (l.view t) x → ⊥). n ((holds_is (l.view t) x row).0 k))
          ((listed_is (l.view t) x a).0 s).undropped) in
          omega arith
      at (inr n) =
          let less = entries_lt row (rights_of l t) m
          (λ s. n ((holds_is (l.view t) x row).1 ((listed_is (l.view t) x row).0 s).minimal.holds)) in
          omega (arith, rights_length l t)

module _ (l : Listing) (bounded : Bounded l) (rowed : RowRight l) where
  short_of : (t : ℕ) → t < l.targets → (xs : List ℕ) → AllShort (cells_of l t xs)
  unfolding cells_of
  short_of t h [] = tt
  short_of t h (x ∷ xs) = (set_short l t x (bounded.members t h) (rowed t h), short_of t h xs)

  short_from : (n t : ℕ) → t + n ≤ l.targets → AllShort (cells_from l n t)
  unfolding cells_from
  short_from zero t h = tt
  short_from (suc n) t h =
      short_append (cells_of l t (in_order (width_of l t))) (cells_from l n (suc t))
      (short_of t (omega arith) (in_order (width_of l t))) (short_from n (suc t) (omega arith))

  all_short : AllShort (cells l)
  unfolding cells
  all_short = short_from l.targets 0 (omega arith)

  -- the set at a place has 16 entries at most
  pub cell_short : (p : ℕ) → length (get_or (cells l) p []) ≤ column_bound
  cell_short p = short_at p (cells l) all_short

  -- how many entries there are at most
  pub listing_few : length (flat (cells l)) ≤ column_bound * length (cells l)
  listing_few = short_flat (cells l) all_short

-- how many places there are at most
module _ (l : Listing) (bounded : Bounded l) where
  places_le : (n t : ℕ) → t + n ≤ l.targets → length (cells_from l n t) ≤ 2 ^ column_bound * n
  unfolding cells_from
  places_le zero t h = zero-le
  places_le (suc n) t h =
      let one : 2 ^ width_of l t ≤ 2 ^ column_bound = pow_mono (bounded.members t (omega arith)) in
      omega (arith, places_from l n t, places_le n (suc t) (omega arith))

  pub places_few : length (cells l) ≤ 2 ^ column_bound * table_bound
  unfolding cells
  places_few = omega (arith, places_le l.targets 0 (omega arith), bounded.targets)

-- the ordinary listing of an accepted catalogue
module _ (cat : List ℕ) (ok : Accepted cat) where
  -- no call with a run of 16 records is refused by 13
  pub no_call_13 : (place budget room words : ℕ) → column_bound ≤ room
      → list_code cat place budget room words ≡ number RunTooShort → ⊥
  no_call_13 place budget room words h e =
      not_short (outcome (cells (ordinary cat)) place budget room words)
      (sym (after_none (check_code cat) ok (cells (ordinary cat)) place budget room words) ∙ e)
    where
      not_short : {code : ℕ} → Outcome (cells (ordinary cat)) place budget room words code → code ≡ number RunTooShort
          → ⊥
      not_short (few c w) q = omega arith
      not_short (past c w l) q = omega arith
      not_short (short c w l g r) q =
          omega (arith, cell_short (ordinary cat) (ordinary_bounded cat ok) (ordinary_row cat) place)
      not_short (none c w l f) q = omega arith

  -- how many sets and entries there are at most
  pub sets_few : sets cat ≤ 2 ^ column_bound * table_bound
  sets_few = omega (arith, places_few (ordinary cat) (ordinary_bounded cat ok), cells_length cat)

  pub entries_few : length (flat (cells (ordinary cat))) ≤ column_bound * sets cat
  entries_few =
      omega (arith, listing_few (ordinary cat) (ordinary_bounded cat ok) (ordinary_row cat), cells_length cat)
