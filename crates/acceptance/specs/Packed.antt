-- The full listing as a packed list behind any bytes ("Packed list"): it is bytes, it is accepted, and read as it is.
use Rattle.std.specs.Prelude.{ℕ, ◌≡◌, List, ◌++◌, length}
use Rattle.model.specs.Bytes.{Bytes}
use Rattle.model.specs.Entries.{entries_code}
use Rattle.model.specs.Packing.{packed}
use Rattle.model.specs.Reading.{count_in, entries_held, read_code}
use Rattle.acceptance.specs.Acceptance.{full_listing}

-- the file of the full listing behind a front
abbrev pub full_file : List ℕ → List ℕ → List ℕ
full_file front cat = front ++ packed (full_listing cat)

pub record ListingRead (front cat : List ℕ) : Type 0 where
  pub fine : entries_code (full_listing cat) ≡ 0
  pub bytes : Bytes (packed (full_listing cat))
  pub accepted : read_code (full_file front cat) ≡ 0
  pub entries : entries_held (full_file front cat) ≡ full_listing cat
  pub count : count_in (full_file front cat) ≡ length (full_listing cat)
