-- The contracts of finding the set at a place, passing a set and going on to the next.
use Rattle.std.specs.Prelude.{ℕ, ◌≤◌, ◌<◌, ◌≡◌, List, [], ◌∷◌, length, drop, Option, Some, None}
use Rattle.model.specs.Listing.{Listing, cells, rights_of, entries_of}
use Rattle.model.specs.Reply.{answered}
use Rattle.model.specs.declared.Entry.{Entry}
use Rattle.passing.specs.declared.Held.{Held}
use Rattle.passing.specs.declared.Walk.{Walk}
use Rattle.rights.specs.Ready.{Ready}
use Rattle.walk.specs.Places.{SetAt}
use Rattle.walk.specs.Meaning.{ahead, final, Sound, Good}

-- a walk whose set stands at the place, and is still to be passed
pub record Fresh (l : Listing) (w : Walk) (words : List ℕ) : Type 0 where
  pub sound : Sound l w words
  pub stands : SetAt l w.target w.left w.place
  pub pending : w.pending ≡ 0
  pub budget : 0 < w.budget

-- two walks have the same before them
pub record Same (l : Listing) (w v : Walk) : Type 0 where
  pub put : ahead l v ≡ ahead l w
  pub reply : final l v ≡ final l w

-- the first walk of a call
pub record First (l : Listing) (place budget room : ℕ) (w : Walk) (words : List ℕ) : Type 0 where
  pub fresh : Fresh l w words
  pub start : w.place ≡ place
  pub useful : w.budget ≡ budget
  pub free : w.room ≡ room
  pub none : w.passed ≡ 0
  pub empty : w.count ≡ 0

-- the entries of the set of a walk
abbrev pub cell_of : Listing → Walk → List Entry
cell_of l w = entries_of l w.target w.left (rights_of l w.target)

-- the walk at another set, with what the words hold for its target and the target's rights
abbrev pub moved_to : Walk → ℕ → ℕ → ℕ → Held → ℕ → Walk
moved_to w target left members held own =
    record {
      target = target;
      left = left;
      members = members;
      held = held;
      own = own;
      place = w.place;
      budget = w.budget;
      room = w.room;
      passed = w.passed;
      count = w.count;
      pending = w.pending;
    }

-- a set is passed, or its entries do not fit
abbrev pub Passes : Listing → Walk → Option Walk → List ℕ → Type 0
Passes l w (Some v) words =
    Good l v words × Same l w v × (v.budget < w.budget) × (length (cell_of l w) ≤ w.room)
Passes l w None words = w.room < length (cell_of l w)

-- a walk is at the set after that of another
pub record After (l : Listing) (w v : Walk) (words : List ℕ) : Type 0 where
  pub fresh : Fresh l v words
  pub ready : Ready l v.target v.held v.own words
  pub same : Same l w v
  pub budget : v.budget ≡ w.budget
  pub place : v.place ≡ w.place
  pub passed : v.passed ≡ w.passed
  pub count : v.count ≡ w.count

-- the walk is at the next set, or no set is left
abbrev pub Follows : Listing → Walk → Option Walk → List ℕ → Type 0
Follows l w (Some v) words = After l w v words
Follows l w None words = drop w.place (cells l) ≡ []

-- nothing is ahead, and the answer is where the walk stands
pub record Stopped (l : Listing) (w : Walk) : Type 0 where
  pub put : ahead l w ≡ []
  pub reply : final l w ≡ answered (w.place ∷ w.passed ∷ w.count ∷ [])

-- the next set is passed, or the walk stops
abbrev pub Goes : Listing → Walk → Option Walk → List ℕ → Type 0
Goes l w (Some v) words = Good l v words × Same l w v × (v.budget < w.budget)
Goes l w None words = Stopped l w
