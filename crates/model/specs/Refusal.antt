-- The refusals and their numbers ("Feeder desk codes", and document 02), and how grounds are tried in order: 0 says
-- that there is none.
use Rattle.std.specs.Prelude.{ℕ, zero, suc, ◌≡◌, ◌<◌, ◌⊎◌, Result, Ok, Err, MatchResult}
use Rattle.columns.specs.Test.{if_eq}
use Rattle.model.specs.declared.Refusal.{Refusal}
use Rattle.model.specs.declared.NotARefusal.{NotARefusal}
use Rattle.model.specs.declared.Refusal.TheVariants.{FileTooShort, BadTrailer, BadExtent, TableTooLarge}
use Rattle.model.specs.declared.Refusal.TheVariants.{BadParentTable, TooManyVisible, BadParentRow, UnknownTable}
use Rattle.model.specs.declared.Refusal.TheVariants.{UnknownColumn, UnknownRight, TooFewWords, PastTheEnd}
use Rattle.model.specs.declared.Refusal.TheVariants.{RunTooShort, NoList, BadEntry, OutputTooShort}
use Rattle.model.specs.declared.Refusal.TheVariants.{FalseRecord, UnsoundEntry, UncoveredSet}
use Rattle.model.specs.declared.Refusal.TheVariants.{BadText, UnfitText, NoRoom}

-- the document's number for each refusal, with its word
abbrev pub number : Refusal → ℕ
number FileTooShort = 1  -- torn
number BadTrailer = 2  -- no tail
number BadExtent = 3  -- misplaced
number TableTooLarge = 4  -- oversize
number BadParentTable = 5  -- no stem
number TooManyVisible = 6  -- too wide
number BadParentRow = 7  -- stray row
number UnknownTable = 8  -- unknown table
number UnknownColumn = 9  -- unknown column
number UnknownRight = 10  -- unknown right
number TooFewWords = 11  -- small bench
number PastTheEnd = 12  -- past the end
number RunTooShort = 13  -- tray full
number NoList = 14  -- no list
number BadEntry = 15  -- bad entry
number OutputTooShort = 16  -- short sheet
-- document 02, b and f, has no words for these: beside them stand their names
number FalseRecord = 17  -- false record
number UnsoundEntry = 18  -- unsound entry
number UncoveredSet = 19  -- uncovered set
number BadText = 20  -- bad text
number UnfitText = 21  -- unfit text
number NoRoom = 22  -- no room

-- the number of the last refusal: each later one adds a line above and moves this one
abbrev pub last_refusal : ℕ
last_refusal = number NoRoom

-- what is read of a number: the refusal that has it, or that none has it
abbrev pub Numbered : ℕ → Result Refusal NotARefusal → Type 0
Numbered n r = MatchResult r (λ why. number why ≡ n) (λ e. (e.0 ≡ n) × ((n ≡ 0) ⊎ (last_refusal < n)))

-- the number of the refusal that a test gives, and 0 where it gives none
abbrev pub code_of : {A : Type 0} → Result A Refusal → ℕ
code_of (Ok a) = 0
code_of (Err r) = number r

-- the first ground of two
unfoldable pub or_else : ℕ → ℕ → ℕ
or_else a b = if_eq a 0 b a

-- the first ground among f i, f (i + 1) and on, n in all
unfoldable pub first_of : ℕ → ℕ → (ℕ → ℕ) → ℕ
first_of zero i f = 0
first_of (suc n) i f = or_else (f i) (first_of n (suc i) f)
