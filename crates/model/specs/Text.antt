-- What the listing program prints ("The album catalogue"), as bytes: the whole text for every input.
use Rattle.std.specs.Prelude.{ℕ, zero, suc, ◌+◌, ◌/◌, ◌%◌, List, [], ◌∷◌, ◌++◌, length}
use Rattle.columns.specs.Test.{if_eq, if_lt}
use Rattle.model.specs.Bounds.{file_bound, row}
use Rattle.model.specs.Catalogue.{tables, sets}
use Rattle.model.specs.Check.{check_code}
use Rattle.model.specs.Listing.{cells, ordinary}
use Rattle.model.specs.Calls.{flat}
use Rattle.model.specs.declared.Entry.{Entry}

-- a number in decimal: one digit below 10, else the digits of its tenth and the last digit; a number has no more
-- digits than its value and 1
unfoldable pub decimal_in : ℕ → ℕ → List ℕ
decimal_in zero n = []
decimal_in (suc fuel) n = if_lt n 10 ((48 + n) ∷ []) (decimal_in fuel (n / 10) ++ ((48 + n % 10) ∷ []))

unfoldable pub decimal : ℕ → List ℕ
decimal n = decimal_in (suc n) n

-- `tables `, ` sets `, ` entries `, `refused `, `row`, the space and the line feed
abbrev pub tables_word : List ℕ
tables_word = 116 ∷ 97 ∷ 98 ∷ 108 ∷ 101 ∷ 115 ∷ 32 ∷ []

abbrev pub sets_word : List ℕ
sets_word = 32 ∷ 115 ∷ 101 ∷ 116 ∷ 115 ∷ 32 ∷ []

abbrev pub entries_word : List ℕ
entries_word = 32 ∷ 101 ∷ 110 ∷ 116 ∷ 114 ∷ 105 ∷ 101 ∷ 115 ∷ 32 ∷ []

abbrev pub refused_word : List ℕ
refused_word = 114 ∷ 101 ∷ 102 ∷ 117 ∷ 115 ∷ 101 ∷ 100 ∷ 32 ∷ []

abbrev pub row_word : List ℕ
row_word = 114 ∷ 111 ∷ 119 ∷ []

abbrev pub space : List ℕ
space = 32 ∷ []

abbrev pub line_feed : List ℕ
line_feed = 10 ∷ []

-- the line `too long`
abbrev pub too_long : List ℕ
too_long = 116 ∷ 111 ∷ 111 ∷ 32 ∷ 108 ∷ 111 ∷ 110 ∷ 103 ∷ 10 ∷ []

-- the right side of an entry: `row` where it stands for the row, else its number
unfoldable pub right_text : ℕ → List ℕ
right_text right = if_eq right row row_word (decimal right)

-- an entry: target, left side as a number and right side, parted by one space; and its line
unfoldable pub entry_text : Entry → List ℕ
entry_text e = decimal e.target ++ (space ++ (decimal e.left ++ (space ++ right_text e.right)))

unfoldable pub entry_line : Entry → List ℕ
entry_line e = entry_text e ++ line_feed

-- a line for each entry
unfoldable pub lines_of : List Entry → List ℕ
lines_of [] = []
lines_of (e ∷ es) = entry_line e ++ lines_of es

-- the head line: the tables, the sets over all targets and the entries
unfoldable pub head_line : ℕ → ℕ → ℕ → List ℕ
head_line tables sets entries =
    tables_word ++ (decimal tables ++ (sets_word ++ (decimal sets ++ (entries_word ++ (decimal entries ++ line_feed)))))

-- a refusal: `refused` and its number
unfoldable pub refused_line : ℕ → List ℕ
refused_line number = refused_word ++ (decimal number ++ line_feed)

-- the whole listing of a catalogue: the head line and a line for each entry of the full listing
unfoldable pub listing_text : List ℕ → List ℕ
listing_text cat =
    head_line (tables cat) (sets cat) (length (flat (cells (ordinary cat)))) ++ lines_of (flat (cells (ordinary cat)))

-- what is printed for the bytes of standard input
unfoldable pub answer_text : List ℕ → List ℕ
answer_text cat =
    if_lt file_bound (length cat) too_long (if_eq (check_code cat) 0 (listing_text cat) (refused_line (check_code cat)))
