-- The round trips: a packed list reads back as its entries and its front, and the entries read from an accepted list
-- pack into its bytes.
use Prim.Native.Nat.{ℕ, ◌+◌, ◌-◌, ◌*◌, ◌≤◌}
use mathlib.Core.Path.{◌≡◌, sym, ap, ◌∙◌}
use mathlib.Core.List.{List, ◌++◌, append_assoc, append-nil}
use native.Mathlib.Omega.{arith}
use lib.ListN.{length, length-append, drop, take-append-drop}
use lib.Seq.{take-append_seam, drop-length}
use Rattle.model.specs.Bytes.{u32_at, bytes4, Bytes}
use Rattle.model.specs.Entries.{entry_bytes, entries_bytes, entries_code}
use Rattle.model.specs.Packing.{trailer_bytes, distance_of, packed}
use Rattle.model.specs.Reading.{entries_held, count_in, distance_in, front_of, tail_code, read_code}
use Rattle.model.specs.declared.Entry.{Entry}
use Rattle.entries.specs.Small.{Small}
use Rattle.packed.specs.Round.{ReadsBack, PacksBack}
use Rattle.model.proofs.Grounds.{or_else_both, or_else_next}
use Rattle.file.proofs.Numbers.{u32_forth}
use Rattle.packed.proofs.Order.{order_bound}
use Rattle.packed.proofs.Trailer.{length_trailer, count_of, distance_of_lem, listed, lists}
use Rattle.entries.proofs.Entries.{entries_after, entries_back, entries_forth, length_entries, length_from}

-- the parts of a packed list behind a front
split : (front : List ℕ) (es : List Entry)
    → front ++ packed es ≡ (front ++ entries_bytes es) ++ (bytes4 (length es) ++ bytes4 (distance_of (length es)))
unfolding packed
split front es = sym (append_assoc front (entries_bytes es) (bytes4 (length es) ++ bytes4 (distance_of (length es))))

module _ (front : List ℕ) (es : List Entry) (s : Small es) (h : entries_code es ≡ 0) where
  long : length (front ++ packed es) ≡ length front + (distance_of (length es))
  long =
      rw (split front es)
      (omega (
        arith,
        length_trailer (front ++ entries_bytes es) (length es) (distance_of (length es)),
        length-append front (entries_bytes es),
        length_entries es,
      ))

  counted : count_in (front ++ packed es) ≡ length es
  counted = rw (split front es)
      (count_of (front ++ entries_bytes es) (length es) (distance_of (length es)) (omega (arith, order_bound es s h)))

  distant : distance_in (front ++ packed es) ≡ distance_of (length es)
  distant =
      rw (split front es)
      (distance_of_lem (front ++ entries_bytes es) (length es) (distance_of (length es)) (omega (arith, order_bound es s h)))

  first : length (front ++ packed es) - distance_in (front ++ packed es) ≡ length front + 0
  first = omega (arith, long, distant)

  entries_read : entries_held (front ++ packed es) ≡ es
  unfolding entries_held packed
  entries_read =
      rw (counted, first)
      (entries_after front (packed es) (length es) 0
      ∙ entries_back es (bytes4 (length es) ++ bytes4 (distance_of (length es))) s)

  front_read : front_of (front ++ packed es) ≡ front
  unfolding front_of
  front_read = let e : length front + 0 ≡ length front = omega arith in
      rw (first, e) (take-append_seam front (packed es))

  read : read_code (front ++ packed es) ≡ 0
  unfolding read_code
  read =
      or_else_next _
      (lists (front ++ packed es) record {
        trailer = omega (arith, long);
        distance = rw counted distant;
        fits = omega (arith, long, distant);
      })
      ∙ ap entries_code entries_read ∙ h

  pub reads_back : ReadsBack front es
  reads_back = record { accepted = read; entries = entries_read; before = front_read }

-- the trailer's bytes
trailer_forth : (file : List ℕ) → Bytes file → trailer_bytes ≤ length file
    → bytes4 (count_in file) ++ bytes4 (distance_in file) ≡ drop (length file - trailer_bytes) file
unfolding count_in distance_in
trailer_forth file s h =
    let e : length file - trailer_bytes + 4 ≡ length file - 4 = omega arith in
    let d : length file - 4 + 4 ≡ length file = omega arith in
    let last : bytes4 (u32_at file (length file - 4)) ≡ drop (length file - 4) file =
    sym (append-nil (bytes4 (u32_at file (length file - 4))))
    ∙ sym (ap (λ (l : List ℕ). bytes4 (u32_at file (length file - 4)) ++ l)
    (ap (λ (n : ℕ). drop n file) d ∙ drop-length file))
    ∙ u32_forth file (length file - 4) s (omega arith) in
    rw last (rw e at (u32_forth file (length file - trailer_bytes) s (omega arith)))

module _ (file : List ℕ) (s : Bytes file) (h : read_code file ≡ 0) where
  grounds : (tail_code file ≡ 0) × (entries_code (entries_held file) ≡ 0)
  unfolding read_code
  grounds = or_else_both (tail_code file) (entries_code (entries_held file)) h

  forth : packed (entries_held file) ≡ drop (length file - distance_in file) file
  unfolding packed entries_held
  forth =
      let l = listed file grounds.0 in
      let e : length file - distance_in file + entry_bytes * count_in file ≡ length file - trailer_bytes = omega arith in
      rw (
        length_from file (count_in file) (length file - distance_in file),
        ← l.distance,
        trailer_forth file s
            l.trailer,
        ← e,
      )
      (entries_forth file (count_in file) (length file - distance_in file) s (omega arith))

  pub packs_back : PacksBack file
  unfolding front_of
  packs_back =
      record {
        accepted = grounds.1;
        bytes = rw forth (take-append-drop (length file - distance_in file) file);
      }
