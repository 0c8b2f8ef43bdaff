-- Words, one for each left side: numbers by their bits, what closing the words over larger left sides means, and the
-- rights that are read off them. Nothing here knows of a catalogue.
use Rattle.std.specs.Prelude.{ℕ, zero, suc, ◌+◌, ◌^◌, ◌≤◌, ◌<◌, ◌≡◌, List, length, get_or}
use Rattle.std.specs.Int.Bits.{bit_or, bit_and, bit_xor}
use Rattle.columns.specs.Set.{bit, without_of}
use Rattle.filled.specs.Filled.{Filled}

-- the word at x; past the end it is 0
abbrev pub word : List ℕ → ℕ → ℕ
word ws x = get_or ws x 0

-- the left side s is x or larger: each member of x is one of s
abbrev pub Above : ℕ → ℕ → Type 0
Above x s = (k : ℕ) → bit x k ≡ 1 → bit s k ≡ 1

-- the bits of x that are not bits of y
abbrev pub lacking_of : ℕ → ℕ → ℕ
lacking_of x y = bit_xor x (bit_and x y)

-- the word at y, with the bits of the word that is `column` further on, or of that at the left side with column k
abbrev pub with_further : ℕ → (ℕ → ℕ) → ℕ → ℕ
with_further column f y = bit_or (f y) (f (y + column))

abbrev pub with_column : ℕ → (ℕ → ℕ) → ℕ → ℕ
with_column k f y = bit_or (f y) (f (bit_or y (2 ^ k)))

-- the word at y with the first k columns joined, one after the other
unfoldable pub with_columns : ℕ → (ℕ → ℕ) → ℕ → ℕ
with_columns zero f = f
with_columns (suc k) f = with_column k (with_columns k f)

-- one block joined: each of the `column` words from `start` on has got the bits of the word that is `column` further on
abbrev pub BlockJoined : ℕ → ℕ → List ℕ → List ℕ → Type 0
BlockJoined start column before after =
    Filled start (start + column) (with_further column (word before)) before after

-- the first k columns joined from `start` to `end`
abbrev pub ColumnsJoined : ℕ → ℕ → ℕ → List ℕ → List ℕ → Type 0
ColumnsJoined start end k before after = Filled start end (with_columns k (word before)) before after

-- one column joined: each of the first 2 ^ n words has got the bits of the word at its left side with column k
pub record ColumnJoined (n k : ℕ) (before after : List ℕ) : Type 0 where
  pub same_length : length after ≡ length before
  pub joined : (y : ℕ) → y < 2 ^ n → word after y ≡ bit_or (word before y) (word before (bit_or y (2 ^ k)))
  pub past : (y : ℕ) → 2 ^ n ≤ y → word after y ≡ word before y

-- all n columns joined: a bit stands in the word of x exactly if it stood in that of some left side that is x or larger
pub record Closed (n : ℕ) (before after : List ℕ) : Type 0 where
  pub same_length : length after ≡ length before
  pub sound : (x a : ℕ) → x < 2 ^ n → bit (word after x) a ≡ 1
      → (s : ℕ) × (s < 2 ^ n) × Above x s × (bit (word before s) a ≡ 1)
  pub complete : (x s a : ℕ) → x < 2 ^ n → s < 2 ^ n → Above x s → bit (word before s) a ≡ 1
      → bit (word after x) a ≡ 1
  pub past : (y : ℕ) → 2 ^ n ≤ y → word after y ≡ word before y

-- right a is read off marks of left sides, 1 where one does not give it: the left side x gives it, it is not in x, and
-- x with a column less does not give it
pub record Narrow (mark : ℕ → ℕ) (x a : ℕ) : Type 0 where
  pub given : mark x ≡ 0
  pub outside : bit x a ≡ 0
  pub spare : (k : ℕ) → bit x k ≡ 1 → mark (without_of x k) ≡ 1

-- off the words, each of them with the marks for every right, among the rights that are asked for
abbrev pub mark_at : List ℕ → ℕ → ℕ → ℕ
mark_at ws a x = bit (word ws x) a

abbrev pub ReadOff : List ℕ → ℕ → ℕ → ℕ → Type 0
ReadOff ws x own a = (bit own a ≡ 1) × Narrow (mark_at ws a) x a
