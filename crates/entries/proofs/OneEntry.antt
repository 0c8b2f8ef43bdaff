-- One entry as bytes, by the bytes' layout: how many it has, that it is read back behind any bytes, and that an entry
-- read, written, is the bytes that stand there. The laws on lists of entries cite these and know no layout.
use Prim.Native.Nat.{ℕ, ◌+◌, ◌-◌, ◌^◌, ◌≤◌, ◌<◌}
use mathlib.Core.Path.{◌≡◌, refl, sym, ◌∙◌}
use mathlib.Core.List.{List, [], ◌∷◌, ◌++◌}
use native.Mathlib.Nat.{add_assoc}
use native.Mathlib.Omega.{arith}
use lib.ListN.{length, take, drop, get_or-eq_default}
use Rattle.file.proofs.Past.{u16_past}
use Rattle.file.proofs.Numbers.{byte_after, u16_after, u16_of_bytes2, bytes2_of_u16, drop_four}
use Rattle.columns.specs.Bound.{column_bound}
use Rattle.model.specs.Entry.{entry}
use Rattle.model.specs.Bytes.{u16_at, bytes2, Bytes}
use Rattle.model.specs.Entries.{entry_bytes, bytes_of, entry_at}
use Rattle.model.specs.declared.Entry.{Entry}

pub length_entry : (e : Entry) → length (bytes_of e) ≡ entry_bytes
unfolding bytes_of bytes2
length_entry e = refl

-- behind a front
pub entry_after : (xs ys : List ℕ) (i : ℕ) → entry_at (xs ++ ys) (length xs + i) ≡ entry_at ys i
unfolding entry_at
entry_after xs ys i = simp (add_assoc, byte_after xs ys, u16_after)

-- past the end
pub entry_past : (file : List ℕ) (i : ℕ) → length file ≤ i → entry 0 0 0 ≡ entry_at file i
unfolding entry_at
entry_past file i h =
    cc (
      get_or-eq_default file 0 h,
      get_or-eq_default file 0 {n = i + 1} (omega arith),
      u16_past file (i + 2) (omega arith),
    )

-- what is written is read back
left_back : (x y l : ℕ) (ys : List ℕ) → l < 2 ^ column_bound → u16_at (x ∷ y ∷ bytes2 l ++ ys) 2 ≡ l
left_back x y l ys h = u16_after (x ∷ y ∷ []) (bytes2 l ++ ys) 0 ∙ u16_of_bytes2 l ys h

pub entry_back : (e : Entry) (ys : List ℕ) → e.left < 2 ^ column_bound → entry_at (bytes_of e ++ ys) 0 ≡ e
unfolding entry_at bytes_of
entry_back e ys h = rw (left_back e.target e.right e.left ys h)

-- what is read, written
pub entry_forth : (file : List ℕ) (i : ℕ) → Bytes file → i + entry_bytes ≤ length file
    → bytes_of (entry_at file i) ++ drop (i + entry_bytes) file ≡ drop i file
unfolding bytes_of entry_at
entry_forth file i s h = rw (bytes2_of_u16 file (i + 2) s, add_assoc i 2 1) (sym (drop_four file i h))

-- an entry's own bytes, cut out
pub entry_cut : (file : List ℕ) (i : ℕ) → i + entry_bytes ≤ length file
    → entry_at (take (i + entry_bytes - i) (drop i file)) 0 ≡ entry_at file i
unfolding entry_at u16_at
entry_cut file i h =
    let n : i + entry_bytes - i ≡ entry_bytes = omega arith in rw (n, drop_four file i h, add_assoc i 2 1) refl
