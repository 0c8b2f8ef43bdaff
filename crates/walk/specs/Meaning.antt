-- What a call on a listing has before it, and where a walk through it stands. The walk of `list` cites these names
-- and looks into none of them.
use Rattle.std.specs.Prelude.{ℕ, suc, ◌+◌, ◌*◌, ◌^◌, ◌≤◌, ◌<◌, ◌≡◌, List, [], ◌∷◌, ◌++◌, length, drop}
use Rattle.model.specs.Bounds.{work_bound}
use Rattle.model.specs.Calls.{passed, written}
use Rattle.model.specs.Listing.{Listing, width_of, cells, Bounded}
use Rattle.model.specs.Reply.{Reply, answered}
use Rattle.model.specs.declared.Entry.{Entry}
use Rattle.passing.specs.Pass.{right_bound}
use Rattle.passing.specs.declared.Walk.{Walk}
use Rattle.rights.specs.Ready.{Ready}
use Rattle.rights.specs.Rights.{entries_of_mask}
use Rattle.walk.specs.Places.{SetBefore}

-- what is written for the sets that a walk has before it, and how many it will pass
abbrev pub written_ahead : Listing → Walk → List Entry
written_ahead l w = written w.budget w.room (drop w.place (cells l))

abbrev pub passed_ahead : Listing → Walk → ℕ
passed_ahead l w = passed w.budget w.room (drop w.place (cells l))

-- what is still to be put: the rest of the set before the place, and what is written for the sets from there on
unfoldable pub ahead : Listing → Walk → List Entry
ahead l w = entries_of_mask w.target w.left w.members w.pending ++ written_ahead l w

-- what will be answered
unfoldable pub final : Listing → Walk → Reply
final l w =
    answered
    ((w.place + passed_ahead l w) ∷ (w.passed + passed_ahead l w) ∷ (w.count + length (written_ahead l w)) ∷ [])

-- what holds of a walk and the words all along
pub record Sound (l : Listing) (w : Walk) (words : List ℕ) : Type 0 where
  pub bounded : Bounded l
  pub enough : work_bound ≤ length words
  pub members : w.members ≡ width_of l w.target
  pub passed : w.passed ≤ w.place
  pub counted : w.count ≤ right_bound * w.place

-- what holds between two steps: the walk's set stands before the place, what is pending are rights of it, and where
-- more sets can be passed the words are ready for its target
pub record Good (l : Listing) (w : Walk) (words : List ℕ) : Type 0 where
  pub sound : Sound l w words
  pub stands : SetBefore l w.target w.left w.place
  pub pending : w.pending < 2 ^ suc w.members
  pub ready : 0 < w.budget → Ready l w.target w.held w.own words
