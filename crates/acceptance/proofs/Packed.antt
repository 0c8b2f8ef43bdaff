-- The full listing of an accepted catalogue has no ground under 15, so packed behind any bytes it is read back. Packed,
-- it is bytes.
use Prim.Native.Nat.{ℕ, ◌^◌, ◌≤◌, ◌<◌}
use mathlib.Core.Path.{◌≡◌, refl, sym, ap, subst, ◌∙◌}
use mathlib.Core.Logic.{◌⊎◌, inl, inr, ⊎_elim}
use mathlib.Core.Bool.{Bool, false}
use mathlib.Core.List.{List, [], ◌∷◌, ◌++◌, append-nil, Memᴰ}
use native.Mathlib.Decide.{ℕ_discrete}
use native.Mathlib.Omega.{arith}
use lib.ListN.{length}
use lib.Pow.{pow_mono}
use Rattle.columns.specs.Bound.{column_bound}
use Rattle.columns.specs.Set.{member_of}
use Rattle.columns.specs.Test.{pick}
use Rattle.columns.proofs.Bits.{member_bit}
use Rattle.model.specs.Bounds.{table_bound, row}
use Rattle.model.specs.Catalogue.{inherited, visible}
use Rattle.model.specs.Check.{Accepted}
use Rattle.model.specs.Refusal.{number}
use Rattle.model.specs.Entry.{Ordered, Earlier, earlier}
use Rattle.model.specs.Bytes.{bytes2, bytes4, Bytes}
use Rattle.model.specs.Entries.{bytes_of, entries_bytes, entry_code, later_code, rest_code, entries_code}
use Rattle.model.specs.Packing.{distance_of, packed}
use Rattle.model.specs.Listing.{Stands, ordinary}
use Rattle.model.specs.declared.Entry.{Entry}
use Rattle.model.specs.declared.Refusal.TheVariants.{BadEntry}
use Rattle.model.proofs.Truth.{is_true, is_false}
use Rattle.model.proofs.Grounds.{or_else_none}
use Rattle.model.proofs.Earlier.{earlier_is}
use Rattle.model.proofs.Check.{accepted_tables, accepted_visible}
use Rattle.model.proofs.Rights.{right_is, ordinary_bounded}
use Rattle.model.proofs.Listing.{stands_is, full_ordered}
use Rattle.entries.specs.Small.{Small}
use Rattle.entries.proofs.Checks.{right_row, right_column}
use Rattle.entries.proofs.Entries.{length_in}
use Rattle.evidence.proofs.Records.{two_bytes}
use Rattle.packed.proofs.Round.{reads_back}
use Rattle.acceptance.specs.Acceptance.{full_listing}
use Rattle.acceptance.specs.Packed.{full_file, ListingRead}

-- entries in listing order, each without a ground of its own, have none
later_none : (e f : Entry) → Earlier e f → later_code e f ≡ 0
unfolding later_code
later_none e f h =
    ap (λ (t : Bool). pick t 0 (number BadEntry)) (is_true {b = earlier e f} ((earlier_is e f).1 h))

rest_none : (e : Entry) (es : List Entry) → ((f : Entry) → Memᴰ f es → Earlier e f) → Ordered es
    → ((f : Entry) → Memᴰ f es → entry_code f ≡ 0) → rest_code e es ≡ 0
unfolding rest_code
rest_none e [] first o fine = refl
rest_none e (f ∷ fs) first o fine =
    or_else_none (fine f (Memᴰ.head refl))
    (or_else_none (later_none e f (first f (Memᴰ.head refl)))
    (rest_none f fs o.0 o.1 (λ g m. fine g (Memᴰ.tail m))))

pub ordered_none : (es : List Entry) → Ordered es → ((e : Entry) → Memᴰ e es → entry_code e ≡ 0)
    → entries_code es ≡ 0
unfolding entries_code
ordered_none [] o fine = refl
ordered_none (e ∷ es) o fine =
    or_else_none (fine e (Memᴰ.head refl)) (rest_none e es o.0 o.1 (λ f m. fine f (Memᴰ.tail m)))

-- entries whose left sides are below the bound, each
pub each_small : (es : List Entry) → ((e : Entry) → Memᴰ e es → e.left < 2 ^ column_bound) → Small es
each_small [] h = tt
each_small (e ∷ es) h = (h e (Memᴰ.head refl), each_small es (λ f m. h f (Memᴰ.tail m)))

-- entries whose targets and rights are bytes, packed, are bytes
abbrev pub ByteSides : Entry → Type 0
ByteSides e = (e.target < 256) × (e.right < 256)

entries_bytes_lem : (es : List Entry) (ys : List ℕ) → ((e : Entry) → Memᴰ e es → ByteSides e) → Bytes ys
    → Bytes (entries_bytes es ++ ys)
unfolding entries_bytes bytes_of bytes2
entries_bytes_lem [] ys h b = b
entries_bytes_lem (e ∷ es) ys h b =
    let s = h e (Memᴰ.head refl) in
    let later = entries_bytes_lem es ys (λ f m. h f (Memᴰ.tail m)) b in
    (s.0, (s.1, two_bytes e.left (entries_bytes es ++ ys) later))

four_bytes : (n : ℕ) (ys : List ℕ) → Bytes ys → Bytes (bytes4 n ++ ys)
unfolding bytes4
four_bytes n ys b = (omega arith, (omega arith, (omega arith, (omega arith, b))))

pub packed_bytes : (es : List Entry) → ((e : Entry) → Memᴰ e es → ByteSides e) → Bytes (packed es)
unfolding packed
packed_bytes es h =
    entries_bytes_lem es (bytes4 (length es) ++ bytes4 (distance_of (length es))) h
    (four_bytes (length es) (bytes4 (distance_of (length es)))
    (subst Bytes (append-nil (bytes4 (distance_of (length es)))) (four_bytes (distance_of (length es)) [] tt)))

-- those of the full listing
module _ (cat : List ℕ) (ok : Accepted cat) where
  stands_fine : (e : Entry) → Stands (ordinary cat) e → entry_code e ≡ 0
  stands_fine e s = at (ℕ_discrete e.right row) ((right_is cat e.target e.right).0 s.right)
    where
      low : e.target < table_bound
      low = let t = s.target in omega (arith, accepted_tables cat ok)

      out : member_of e.left e.right ≡ false
      out = is_false (λ t. s.listed.minimal.outside (member_bit e.left e.right (is_true t)).1)

      at : Dec (e.right ≡ row)
          → ((inherited cat e.target ≤ e.right) × (e.right < visible cat e.target)) ⊎ (e.right ≡ row)
          → entry_code e ≡ 0
      at (yes q) w = sym (right_row e low q)
      at (no q) (inr r) = absurd (q r)
      at (no q) (inl w) =
          let v = accepted_visible cat ok e.target s.target in
          let u = w.1 in
          sym (right_column e {t = false} low q (omega arith) (sym out))

  pub full_fine : entries_code (full_listing cat) ≡ 0
  full_fine =
      ordered_none (full_listing cat) (full_ordered (ordinary cat) (ordinary_bounded cat ok))
      (λ e m. stands_fine e ((stands_is (ordinary cat) e).0 m))

  pub full_small : Small (full_listing cat)
  full_small = each_small (full_listing cat) (λ e m. low e ((stands_is (ordinary cat) e).0 m))
    where
      low : (e : Entry) → Stands (ordinary cat) e → e.left < 2 ^ column_bound
      low e s =
          let v = accepted_visible cat ok e.target s.target in
          let l = s.left in
          omega (arith, pow_mono v)

  pub full_bytes : Bytes (packed (full_listing cat))
  full_bytes = packed_bytes (full_listing cat) (λ e m. low e ((stands_is (ordinary cat) e).0 m))
    where
      low : (e : Entry) → Stands (ordinary cat) e → ByteSides e
      low e s =
          let t = s.target in
          let v = accepted_visible cat ok e.target s.target in (
            omega (arith, accepted_tables cat ok),
            ⊎_elim (λ w. let u = w.1 in omega arith) (λ (q : e.right ≡ row). omega arith)
                ((right_is cat e.target e.right).0 s.right),
          )

  pub listing_read : (front : List ℕ) → ListingRead front cat
  listing_read front =
      let back = reads_back front (full_listing cat) full_small full_fine in
      record {
        fine = full_fine;
        bytes = full_bytes;
        accepted = back.accepted;
        entries = back.entries;
        count = sym (length_in (full_file front cat)) ∙ ap (λ (es : List Entry). length es) back.entries;
      }
