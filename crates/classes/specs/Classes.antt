-- Rows numbered on a member in a byte each: two rows have the same number exactly if they have the same key.
use Rattle.std.specs.Prelude.{ℕ, ◌+◌, ◌*◌, ◌^◌, ◌≤◌, ◌<◌, ◌≡◌, ◌↔◌, List, eqb, get_or, length}
use Rattle.columns.specs.Bound.{column_bound}
use Rattle.columns.specs.Set.{bit}
use Rattle.model.specs.Bounds.{row_bound}
use Rattle.leaders.specs.Keys.{key_at}

-- how many numbers a byte has; `BYTE_BOUND` of src/lib.rt is the same number in code
abbrev pub byte_bound : ℕ
byte_bound = 256

-- how far the numbers of a member stand from those of the member before, a cache line more than there are rows: the
-- same row of eight members is then in eight sets of a cache, and not in one; `STRIDE` of src/lib.rt is the same
-- number in code
abbrev pub byte_stride : ℕ
byte_stride = row_bound + 64

-- how many numbers there are room for
abbrev pub bytes_size : ℕ
bytes_size = column_bound * byte_stride

-- the number of row q on member k
abbrev pub number_at : List ℕ → ℕ → ℕ → ℕ
number_at bytes k q = get_or bytes (k * byte_stride + q) 0

-- the rows below q are numbered on member k, by so many numbers
pub record Numbering (keys : List ℕ) (k q count : ℕ) (bytes : List ℕ) : Type 0 where
  pub long : length bytes ≡ bytes_size
  pub few : count ≤ byte_bound
  pub back : (i : ℕ) → i < q → key_at keys k i ≤ i
  pub small : (i : ℕ) → i < q → number_at bytes k i < count
  pub same : (i j : ℕ) → i < q → j < q → (number_at bytes k i ≡ number_at bytes k j) ↔ (key_at keys k i ≡ key_at keys k j)

-- the bytes of member k alone are rewritten
pub record OnlyMember (k : ℕ) (before after : List ℕ) : Type 0 where
  pub same_length : length after ≡ length before
  pub others : (j q : ℕ) → (j ≡ k → ⊥) → q < row_bound → number_at after j q ≡ number_at before j q

-- all rows are numbered on member k
pub record SameClasses (keys : List ℕ) (k end : ℕ) (bytes : List ℕ) : Type 0 where
  pub classes : (p q : ℕ) → p < end → q < end → eqb (number_at bytes k p) (number_at bytes k q)
      ≡ eqb (key_at keys k p) (key_at keys k q)

-- all rows are numbered on the members of a set, which are among the first n
pub record Numbered (keys : List ℕ) (n end few : ℕ) (bytes : List ℕ) : Type 0 where
  pub long : length bytes ≡ bytes_size
  pub members : few < 2 ^ n
  pub same : (k : ℕ) → bit few k ≡ 1 → SameClasses keys k end bytes
