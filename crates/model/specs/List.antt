-- The listing call. Its contract is the same for every listing: one code comes before the refusals of the call
-- itself. For the ordinary listing of a catalogue that is the check's.
use Rattle.std.specs.Prelude.{ℕ, List, length}
use Rattle.model.specs.Refusal.{or_else}
use Rattle.model.specs.Check.{check_code}
use Rattle.model.specs.Listing.{Listing, ordinary, cells}
use Rattle.model.specs.Calls.{Seen, Obeys, call_code}
use Rattle.model.specs.declared.Entry.{Entry}

-- the first ground against a call: the one before, then 11, 12 and 13
unfoldable pub first_code : {A : Type 0} → ℕ → List (List A) → ℕ → ℕ → ℕ → ℕ → ℕ
first_code before cells place budget room words = or_else before (call_code cells place budget room words)

-- the contract of a call on a listing
abbrev pub CallMeaning : ℕ → Listing → Seen Entry → Type 0
CallMeaning before l s =
    Obeys (cells l) (first_code before (cells l) s.place s.budget (length s.run) (length s.work)) s

-- the first ground against a call on a catalogue's bytes: 1 to 7, then 11, 12 and 13
abbrev pub list_code : List ℕ → ℕ → ℕ → ℕ → ℕ → ℕ
list_code cat place budget room words = first_code (check_code cat) (cells (ordinary cat)) place budget room words

-- the contract of the listing call
abbrev pub ListMeaning : List ℕ → Seen Entry → Type 0
ListMeaning cat s = CallMeaning (check_code cat) (ordinary cat) s
