-- Numbers of 2 and 4 bytes: what is written is read back, wherever it stands; what is read, written, is the bytes that
-- stand there.
use Prim.Native.Nat.{ℕ, zero, suc, ◌+◌, ◌≤◌, ◌<◌}
use mathlib.Core.Path.{◌≡◌, refl, sym}
use mathlib.Core.List.{List, [], ◌∷◌, ◌++◌}
use native.Mathlib.Nat.{add_assoc}
use native.Mathlib.Numerals.{towards_suc}
use native.Mathlib.Omega.{arith}
use lib.ListN.{length, drop}
use lib.Seq.{get_or-append-add}
use Rattle.std.proofs.lemmas.Nat.{le_bytes_2, le_bytes_4, from_le_bytes-to_le_bytes_4}
use Rattle.model.specs.Bytes.{byte_at, u16_at, u32_at, bytes2, bytes4, Bytes}

-- a number behind a front is the number without it
pub byte_after : (xs ys : List ℕ) (i : ℕ) → byte_at (xs ++ ys) (length xs + i) ≡ byte_at ys i
byte_after xs ys i = get_or-append-add xs ys i 0

pub u16_after : (xs ys : List ℕ) (i : ℕ) → u16_at (xs ++ ys) (length xs + i) ≡ u16_at ys i
unfolding u16_at
u16_after xs ys i = simp (add_assoc, get_or-append-add)

pub u32_after : (xs ys : List ℕ) (i : ℕ) → u32_at (xs ++ ys) (length xs + i) ≡ u32_at ys i
unfolding u32_at
u32_after xs ys i = simp (add_assoc, get_or-append-add)

-- what is written is read back
pub u16_of_bytes2 : (n : ℕ) (ys : List ℕ) → n < 65536 → u16_at (bytes2 n ++ ys) 0 ≡ n
unfolding u16_at bytes2
u16_of_bytes2 n ys h = omega arith

pub u32_of_bytes4 : (n : ℕ) (ys : List ℕ) → n < 4294967296 → u32_at (bytes4 n ++ ys) 0 ≡ n
unfolding u32_at bytes4
u32_of_bytes4 n ys h = omega (arith, from_le_bytes-to_le_bytes_4 n h)

-- what is read, written
pub byte_small : (b : List ℕ) → Bytes b → (i : ℕ) → byte_at b i < 256
byte_small [] s i = omega arith
byte_small (x ∷ xs) s zero = s.0
byte_small (x ∷ xs) s (suc i) = byte_small xs s.1 i

pub bytes2_of_u16 : (b : List ℕ) (i : ℕ) → Bytes b → bytes2 (u16_at b i) ≡ byte_at b i ∷ byte_at b (i + 1) ∷ []
unfolding u16_at bytes2
bytes2_of_u16 b i s =
    let read = byte_at b i ∷ byte_at b (i + 1) ∷ [] in
    let small : Bytes read = (byte_small b s i, (byte_small b s (i + 1), tt)) in
    le_bytes_2 read _ refl (byte_small read small) (omega arith)

pub bytes4_of_u32 : (b : List ℕ) (i : ℕ) → Bytes b
    → bytes4 (u32_at b i) ≡ byte_at b i ∷ byte_at b (i + 1) ∷ byte_at b (i + 2) ∷ byte_at b (i + 3) ∷ []
unfolding u32_at bytes4
bytes4_of_u32 b i s =
    let read = byte_at b i ∷ byte_at b (i + 1) ∷ byte_at b (i + 2) ∷ byte_at b (i + 3) ∷ [] in
    let at = byte_small b s in
    let small : Bytes read = (at i, (at (i + 1), (at (i + 2), (at (i + 3), tt)))) in
    le_bytes_4 read _ refl (byte_small read small) (omega arith)

-- the bytes from i on are four and the rest
pub drop_four : (b : List ℕ) (i : ℕ) → i + 4 ≤ length b
    → drop i b ≡ byte_at b i ∷ byte_at b (i + 1) ∷ byte_at b (i + 2) ∷ byte_at b (i + 3) ∷ drop (i + 4) b
drop_four [] i h = absurd (omega arith)
drop_four (x ∷ []) i h = absurd (omega arith)
drop_four (x ∷ y ∷ []) i h = absurd (omega arith)
drop_four (x ∷ y ∷ z ∷ []) i h = absurd (omega arith)
drop_four (x ∷ y ∷ z ∷ w ∷ xs) zero h = refl
drop_four (x ∷ y ∷ z ∷ w ∷ xs) (suc i) h =
    let r = drop_four (y ∷ z ∷ w ∷ xs) i (omega arith) in simp towards_suc (simp towards_suc at r)

-- the bytes from i on are those of the number read there, and the rest
pub u32_forth : (b : List ℕ) (i : ℕ) → Bytes b → i + 4 ≤ length b → bytes4 (u32_at b i) ++ drop (i + 4) b ≡ drop i b
u32_forth b i s h = rw (bytes4_of_u32 b i s) (sym (drop_four b i h))
