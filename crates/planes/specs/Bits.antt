-- Planes: one bit for each left side, 32 of them in a word. What selecting and closing do to the bits, and
-- what is read off a plane. Nothing here knows of a catalogue.
use Rattle.std.specs.Prelude.{ℕ, ◌+◌, ◌-◌, ◌*◌, ◌/◌, ◌%◌, ◌^◌, ◌<◌, ◌≡◌, Bool, List}
use Rattle.columns.specs.Set.{bit, set_below}
use Rattle.table.specs.Words.{word, Above}

-- the bit of the left side x
abbrev pub plane_bit : List ℕ → ℕ → ℕ
plane_bit ws x = bit (word ws (x / 32)) (x % 32)

-- the word at i of the plane of a test: the bits of the 32 left sides that stand there
abbrev pub plane_word : (ℕ → Bool) → ℕ → ℕ
plane_word test i = set_below 32 (λ j. test (i * 32 + j))

-- the word with a 1 at each of the 32 positions whose bit k is 0, for k below 5
abbrev pub clear_of : ℕ → ℕ
clear_of k = (2 ^ 32 - 1) / (2 ^ 2 ^ k + 1)

-- the word at i with the bits of left sides that hold a taken away
abbrev pub SelectedWord : ℕ → ℕ → ℕ → ℕ → Type 0
SelectedWord i a before after = (j : ℕ) → j < 32 → bit after j ≡ bit before j - bit (i * 32 + j) a

-- a word closed over the five low columns: a bit stands at x exactly if one stood at some position that is x or larger
pub record ClosedWord (before after : ℕ) : Type 0 where
  pub sound : (x : ℕ) → x < 32 → bit after x ≡ 1 → (s : ℕ) × (s < 32) × Above x s × (bit before s ≡ 1)
  pub complete : (x s : ℕ) → x < 32 → s < 32 → Above x s → bit before s ≡ 1 → bit after x ≡ 1

-- the plane of right a from the seeds: the bit of x is 1 exactly if some seed without a is x or larger
pub record PlaneFrom (n a : ℕ) (seeds plane : List ℕ) : Type 0 where
  pub sound : (x : ℕ) → x < 2 ^ n → plane_bit plane x ≡ 1
      → (s : ℕ) × (s < 2 ^ n) × Above x s × (bit s a ≡ 0) × (plane_bit seeds s ≡ 1)
  pub complete : (x s : ℕ) → x < 2 ^ n → s < 2 ^ n → Above x s → bit s a ≡ 0 → plane_bit seeds s ≡ 1
      → plane_bit plane x ≡ 1
